-- Entries of a stack of whole entries, by plain numbers and once over the size: how many entries on from the stack
-- pointer a place stands, and which descriptor is the last there.
use Prim.Native.Nat.{ℕ, suc, ◌+◌, ◌*◌, ◌-◌, ◌/◌, ◌%◌, ◌≤◌, ◌<◌}
use native.Mathlib.Omega.{arith}
use native.Mathlib.Nat.{mod-eq_of_lt, mod-eq-sub-mod, mod_self, mod-lt, mod-add-mod, div-add-mod, mul_comm, mul_assoc, mul-add-mod_self_left}
use mathlib.Core.Path.{◌≡◌, sym, ap, ◌∙◌}
use mathlib.Core.Logic.{⊎_elim}
use Rattle.words.proofs.Basics.{lt_or_ge}
use Rattle.cells.proofs.Block.{WholeEntries, Offset, offset_of}

abbrev pub on : ℕ → ℕ → ℕ → ℕ
on n o j = (j + (n - o)) % n / 4

-- the last of m descriptors at a place's entry: it is one of them, no later one comes there, and its word is at that
-- place
pub record Last (n o j m i : ℕ) : Type 0 where
  pub one : i < m
  pub fits : m ≤ i + n / 4
  pub there : (o + 4 * i) % n + j % 4 ≡ j

module _ (n : ℕ) (z : WholeEntries n) where
  -- a place from the pointer on, and a place before it
  words_on_straight : (o j : ℕ) → o < n → o ≤ j → j < n → (j + (n - o)) % n ≡ j - o
  words_on_straight o j f h l =
      let a : n ≤ j + (n - o) = omega arith in
      let b : j + (n - o) - n ≡ j - o = omega arith in
      let c : j - o < n = omega arith in
      mod-eq-sub-mod a ∙ rw b (mod-eq_of_lt c)

  words_on_around : (o j : ℕ) → o < n → j < o → (j + (n - o)) % n ≡ j + n - o
  words_on_around o j f h =
      let a : j + (n - o) < n = omega arith in
      omega (arith, mod-eq_of_lt a)

  -- after one entry, a place that is not of it stands one entry less on
  pub on_less : (o j : ℕ) → Offset n o → j < n → 1 ≤ on n o j → on n ((o + 4) % n) j + 1 ≡ on n o j
  on_less o j f h l =
      ⊎_elim
      (λ (c : o + 4 < n).
      let e : (o + 4) % n ≡ o + 4 = mod-eq_of_lt c in
      ⊎_elim
      (λ (d : j < o).
      rw (e, words_on_around o j f.below d, words_on_around (o + 4) j c (omega arith)) (omega arith))
      (λ (d : o ≤ j).
      let a = words_on_straight o j f.below d h in
      let k : 1 ≤ (j - o) / 4 = rw a at l in
      rw (e, a, words_on_straight (o + 4) j c (omega arith) h) (omega arith))
      (lt_or_ge j o))
      (λ (c : n ≤ o + 4).
      let q : o + 4 ≡ n = omega (arith, f.below, f.fours, z.fours) in
      let e : (o + 4) % n ≡ 0 = rw q (mod_self n) in
      let b = words_on_straight 0 j z.some (omega arith) h in
      ⊎_elim
      (λ (d : j < o). rw (e, words_on_around o j f.below d, b) (omega arith))
      (λ (d : o ≤ j).
      let k : 1 ≤ (j - o) / 4 = rw (words_on_straight o j f.below d h) at l in
      absurd (omega arith))
      (lt_or_ge j o))
      (lt_or_ge (o + 4) n)

  -- and a place of it stands as far on as there is room
  pub on_farthest : (o k : ℕ) → Offset n o → k < 4 → on n ((o + 4) % n) (o + k) + 1 ≡ n / 4
  on_farthest o k f h =
      ⊎_elim
      (λ (c : o + 4 < n).
      let e : (o + 4) % n ≡ o + 4 = mod-eq_of_lt c in
      rw (e, words_on_around (o + 4) (o + k) c (omega arith)) (omega (arith, z.fours)))
      (λ (c : n ≤ o + 4).
      let q : o + 4 ≡ n = omega (arith, f.below, f.fours, z.fours) in
      let e : (o + 4) % n ≡ 0 = rw q (mod_self n) in
      rw (e, words_on_straight 0 (o + k) z.some (omega arith) (omega arith)) (omega (arith, z.fours)))
      (lt_or_ge (o + 4) n)

  -- a place that stands some entries on is none of the entry at the pointer
  pub on_other : (o j k : ℕ) → Offset n o → j < n → 1 ≤ on n o j → k < 4 → j ≡ o + k → ⊥
  on_other o j k f h l i e =
      let a : 1 ≤ (j - o) / 4 = rw (words_on_straight o j f.below (omega arith) h) at l in
      omega arith

  -- one entry and then i more are i + 1
  pub further : (o i : ℕ) → ((o + 4) % n + 4 * i) % n ≡ (o + 4 * suc i) % n
  further o i =
      let e : o + 4 + 4 * i ≡ o + 4 * suc i = omega arith in
      mod-add-mod (o + 4) n (4 * i) ∙ rw e

  -- the offset stays one
  pub next_offset : (o : ℕ) → Offset n o → Offset n ((o + 4) % n)
  next_offset o f = offset_of n z (o + 4) (omega (arith, f.fours))

  -- a place's entry, from the block's start
  entry_of : (o j : ℕ) → Offset n o → j < n → (o + 4 * on n o j) % n + j % 4 ≡ j
  entry_of o j f h =
      let start : j - j % 4 < n = omega arith in
      ⊎_elim
      (λ (d : j < o).
      let a = words_on_around o j f.below d in
      let back : o + 4 * on n o j ≡ n + (j - j % 4) = rw a (omega (arith, f.below, f.fours, z.fours)) in
      let l : n ≤ n + (j - j % 4) = omega arith in
      let once : n + (j - j % 4) - n ≡ j - j % 4 = omega arith in
      let e : (n + (j - j % 4)) % n ≡ j - j % 4 = mod-eq-sub-mod l ∙ rw once (mod-eq_of_lt start) in
      rw (back, e) (omega arith))
      (λ (d : o ≤ j).
      let a = words_on_straight o j f.below d h in
      let on-it : o + 4 * on n o j ≡ j - j % 4 = rw a (omega (arith, f.fours)) in
      rw (on-it, mod-eq_of_lt start) (omega arith))
      (lt_or_ge j o)

  pub last_on : (o j m : ℕ) → Offset n o → j < n → on n o j < m → Last n o j m (on n o j + (m - 1 - on n o j) / (n / 4) * (n / 4))
  last_on o j m f h l =
      let first = on n o j in
      let room = n / 4 in
      let rounds = (m - 1 - first) / room in
      let some : 0 < room = omega (arith, z.some, z.fours) in
      let all : room * rounds + (m - 1 - first) % room ≡ m - 1 - first = div-add-mod (m - 1 - first) room in
      let left : (m - 1 - first) % room < room = mod-lt (m - 1 - first) some in
      let turn : rounds * room ≡ room * rounds = mul_comm rounds room in
      let fours : 4 * room ≡ n = omega (arith, z.fours) in
      let whole : 4 * (room * rounds) ≡ n * rounds = sym (mul_assoc 4 room rounds) ∙ ap (λ (k : ℕ). k * rounds) fours in
      let at : o + 4 * (first + rounds * room) ≡ n * rounds + (o + 4 * first) = omega (arith, turn, whole) in
      record {
        one = omega (arith, all, turn);
        fits = omega (arith, all, turn, left);
        there = rw (at, mul-add-mod_self_left n rounds (o + 4 * first)) (entry_of o j f h);
      }
