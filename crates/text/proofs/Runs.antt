-- Runs of bytes put into a buffer: one after the other, byte by byte, and apart.
use Prim.Native.Nat.{ℕ, suc, ◌+◌, ◌-◌, ◌/◌, ◌%◌, ◌^◌, ◌<◌, ◌≤◌}
use native.Mathlib.Numerals.{add-one}
use native.Mathlib.Omega.{arith}
use mathlib.Core.Path.{◌≡◌, refl, sym, ◌∙◌}
use mathlib.Core.Logic.{⊎_elim}
use mathlib.Core.Bool.{Bool, true, ◌&&◌}
use mathlib.Core.List.{List, [], ◌∷◌, ◌++◌, append_assoc}
use lib.ListN.{length, get_or, set, take, drop, length-append}
use lib.Seq.{sets, take-suc, set_comm, set_out, length-take-le, sets-eq, drop-drop}
use lib.Dec.{ltb, leb}
use borrow.Author.Tests.{ltb-true, leb-true, le-leb, lt-leb}
use borrow.Rule.Slice.PartMut.{put_mid}
use Rattle.words.proofs.Basics.{lt_or_ge, and_left, and_right}
use Rattle.words.proofs.Runs.{sets_append}
use Rattle.text.specs.Text.{hex_digit, hex_text, place_after, Put, PutFirst}

-- a run of one more byte
pub sets_more :
    (l xs : List ℕ) (at i : ℕ) →
    i < length xs →
    sets l at (take (i + 1) xs) ≡ set (sets l at (take i xs)) (at + i) (get_or xs i 0)
sets_more l xs at i h =
    let e : length (take i xs) ≡ i = length-take-le i xs (omega arith) in
    rw (add-one, take-suc xs i 0, ← sets_append l (take i xs) (get_or xs i 0 ∷ []) at, e)

-- a byte behind a run goes in before or after it
pub set_behind :
    (l xs : List ℕ) (at p b : ℕ) → at + length xs ≤ p → sets (set l p b) at xs ≡ set (sets l at xs) p b
set_behind l [] at p b h = refl
set_behind l (x ∷ xs) at p b h =
    let d : (p ≡ at → ⊥) = λ e. omega arith in
    rw (set_comm l p at b x d) (set_behind (set l at x) xs (suc at) p b (omega arith))

-- four bytes
pub sets_four :
    (l : List ℕ) (at a b c d : ℕ) →
    sets l at (a ∷ b ∷ c ∷ d ∷ []) ≡ set (set (set (set l at a) (at + 1) b) (at + 2) c) (at + 3) d
sets_four l at a b c d =
    let e1 : at + 1 ≡ suc at = omega arith in
    let e2 : at + 2 ≡ suc (suc at) = omega arith in
    let e3 : at + 3 ≡ suc (suc (suc at)) = omega arith in
    rw (e1, e2, e3)

pub sets_hex :
    (l : List ℕ) (at w : ℕ) →
    sets l at (hex_text w)
    ≡ set
    (set (set (set l at (hex_digit (w / 4096 % 16))) (at + 1) (hex_digit (w / 256 % 16))) (at + 2) (hex_digit (w / 16 % 16)))
    (at + 3)
    (hex_digit (w % 16))
unfolding hex_text
sets_hex l at w = sets_four l at _ _ _ _

pub length_hex : (w : ℕ) → length (hex_text w) ≡ 4
unfolding hex_text
length_hex w = refl

-- a run that takes the place of a part as long
pub part_set :
    (l xs ys : List ℕ) (at : ℕ) (k : ℕ) → ys ≡ xs → k ≡ length xs → at + length xs ≤ length l →
    put_mid at k l ys ≡ sets l at xs
part_set l xs ys at k e f h =
    rw (
      e,
      f,
      sets-eq xs l at h,
      drop-drop (length xs) at l,
      append_assoc (take at l) xs (drop (at + length xs) l),
    )

-- ---- places

-- a run that begins past the end leaves the buffer
pub sets_out : (l xs : List ℕ) (at : ℕ) → length l ≤ at → sets l at xs ≡ l
sets_out l [] at h = refl
sets_out l (x ∷ xs) at h = rw (set_out l at x h) (sets_out l xs (suc at) (omega arith))

-- the last place stands for those past it: no buffer reaches them
sets_after : (l ys : List ℕ) (at n : ℕ) → length l < 2 ^ 64 → sets l (place_after at n) ys ≡ sets l (at + n) ys
sets_after l ys at n h =
    ⊎_elim (λ (k : at + n < 2 ^ 64). let e : place_after at n ≡ at + n = omega arith in rw e)
    (λ (k : 2 ^ 64 ≤ at + n). let e : place_after at n ≡ 2 ^ 64 - 1 = omega arith in
    rw (e, sets_out l ys (2 ^ 64 - 1) (omega arith), sets_out l ys (at + n) (omega arith)))
    (lt_or_ge (at + n) (2 ^ 64))

-- ---- text put

-- nothing
pub put_none : {l : List ℕ} {at : ℕ} → length l < 2 ^ 64 → at < 2 ^ 64 → Put l at [] l at
put_none h k = record { short = h; bytes = refl; place = omega arith }

-- text that begins past the buffer's end
pub put_out :
    {l xs : List ℕ} {at p : ℕ} →
    length l < 2 ^ 64 →
    length l ≤ at →
    p ≡ place_after at (length xs) →
    Put l at xs l p
put_out {l} {xs} {at} h k e = record { short = h; bytes = rw (sets_out l xs at k); place = e }

-- text whose place after it can be counted
pub put_here :
    {l l₁ xs : List ℕ} {at p : ℕ} →
    length l < 2 ^ 64 →
    at + length xs < 2 ^ 64 →
    l₁ ≡ sets l at xs →
    p ≡ at + length xs →
    Put l at xs l₁ p
put_here h k b e = record { short = h; bytes = b; place = omega (arith, e) }

-- a column: a byte, and text after it
pub column_here :
    (n : ℕ) {l l₁ l₂ xs : List ℕ} {at b p : ℕ} →
    length l < 2 ^ 64 →
    at + (1 + n) < 2 ^ 64 →
    length xs ≡ n →
    l₁ ≡ set l at b →
    l₂ ≡ sets l₁ (at + 1) xs →
    p ≡ at + (1 + n) →
    Put l at (b ∷ xs) l₂ p
column_here n {l} {l₁} {l₂} {xs} {at} {b} h k long e f p =
    let both : l₂ ≡ sets l at (b ∷ xs) = rw (← e, ← add-one) f in put_here h (omega arith) both (omega arith)

-- the same text, said in another way
pub put_same : {l l₁ xs ys : List ℕ} {at p : ℕ} → xs ≡ ys → Put l at xs l₁ p → Put l at ys l₁ p
put_same e a = rw (← e) a

-- text after text
pub put_then :
    {l l₁ l₂ xs ys : List ℕ} {at p q : ℕ} → Put l at xs l₁ p → Put l₁ p ys l₂ q → Put l at (xs ++ ys) l₂ q
put_then {l} {l₁} {l₂} {xs} {ys} {at} {p} a b =
    record {
      short = a.short;
      bytes =
          rw (← sets_append l xs ys at, ← a.bytes, ← sets_after l₁ ys at (length xs) b.short, ← a.place)
          b.bytes;
      place = rw length-append (omega (arith, a.place, b.place));
    }

-- text at the front that is not too long to count
pub put_first : {l l₁ xs : List ℕ} {p : ℕ} → Put l 0 xs l₁ p → length xs < 2 ^ 64 → PutFirst l xs l₁ p
put_first a h = record { bytes = a.bytes; length = omega (arith, a.place) }

-- ---- room

pub room_left : (at n all : ℕ) → at ≤ all → leb n (all - at) ≡ leb (at + n) all
room_left at n all h =
    ⊎_elim (λ (l : all - at < n). rw (lt-leb n (all - at) l, lt-leb (at + n) all (omega arith)))
    (λ (l : n ≤ all - at). rw (le-leb n (all - at) l, le-leb (at + n) all (omega arith)))
    (lt_or_ge (all - at) n)

-- a number is small, and there is room for it
pub room_says :
    (m limit at n all : ℕ) {small room may : Bool} →
    small ≡ ltb m limit → room ≡ leb (at + n) all → may ≡ (small && room) → may ≡ true → (m < limit) × (at + n ≤ all)
room_says m limit at n all {small} {room} e r b t =
    let h : (small && room) ≡ true = sym b ∙ t in
    (ltb-true m limit (sym e ∙ and_left small room h), leb-true (at + n) all (sym r ∙ and_right small room h))
