-- Which numbers and pairs a listing has, and in which order: every number that passes once, in rising order.
use Prim.Native.Nat.{ℕ, zero, suc, ◌+◌, ◌-◌, ◌*◌, ◌<◌, ◌≤◌}
use native.Mathlib.Omega.{arith}
use mathlib.Core.Path.{◌≡◌, refl, sym, ap}
use mathlib.Core.Logic.{⊎_elim, ◌↔◌}
use mathlib.Core.Bool.{Bool, true, false, cond, true≢false}
use mathlib.Core.List.Memᴰ
use mathlib.Core.List.{List, [], ◌∷◌, ◌++◌, map, map-map, map-append, Memᴰ}
use lib.ListN.{length, get_or, length-append, length-map, get_or-append}
use lib.Seq.{get_or-append-add}
use lib.Dec.{ltb}
use borrow.Author.Tests.{ltb-true, lt-ltb}
use Rattle.words.proofs.Basics.{lt_or_ge, and_left, and_right, and_both}
use Rattle.label.specs.Listing.{Pair, pair_of, above, passing, pairs_with, pairs_below, pair_word, pair_words}

infix 50 ◌∈◌
abbrev pub ◌∈◌ : {A : Type 0} → A → List A → Type 0
a ∈ xs = Memᴰ a xs

-- each number is above the one before it, so none stands twice
abbrev pub Rising : List ℕ → Type 0
Rising xs = (i j : ℕ) → i < j → j < length xs → get_or xs i 0 < get_or xs j 0

-- ---- numbers

-- what one turn adds
last_is : (b : Bool) (n k : ℕ) → k ∈ cond b (n ∷ []) [] → (k ≡ n) × (b ≡ true)
last_is true n k m = (Memᴰ.eq_of_singleton m, refl)
last_is false n k m = absurd (Memᴰ.not-nil m)

is_last : (b : Bool) (n k : ℕ) → k ≡ n → b ≡ true → k ∈ cond b (n ∷ []) []
is_last true n k e h = Memᴰ.head e
is_last false n k e h = absurd (true≢false (sym h))

module _ (t : ℕ → Bool) where
  passing_only : (n k : ℕ) → k ∈ passing t n → (k < n) × (t k ≡ true)
  unfolding passing
  passing_only zero k m = absurd (Memᴰ.not-nil m)
  passing_only (suc n) k m =
      ⊎_elim
      (λ (l : k ∈ passing t n). let f = passing_only n k l in (omega arith, f.1))
      (λ (l : k ∈ cond (t n) (n ∷ []) []).
      let f = last_is (t n) n k l in
      (omega (arith, f.0), rw f.0 f.1))
      (Memᴰ.append_cases (passing t n) m)

  passing_all : (n k : ℕ) → k < n → t k ≡ true → k ∈ passing t n
  unfolding passing
  passing_all zero k l e = absurd (omega arith)
  passing_all (suc n) k l e =
      ⊎_elim
      (λ (h : k < n). Memᴰ.append_left (cond (t n) (n ∷ []) []) (passing_all n k h e))
      (λ (h : n ≤ k).
      let q : k ≡ n = omega arith in
      Memᴰ.append_right (passing t n) (is_last (t n) n k q (rw q at e)))
      (lt_or_ge k n)

  -- listed are exactly the numbers that pass
  pub passing_exactly : (n k : ℕ) → (k ∈ passing t n) ↔ ((k < n) × (t k ≡ true))
  passing_exactly n k = (passing_only n k, λ f. passing_all n k f.0 f.1)

-- ---- places of a list

module _ {A : Type 0} (d : A) where
  -- what stands at a place is in the list
  pub at_place : (xs : List A) (i : ℕ) → i < length xs → get_or xs i d ∈ xs
  at_place [] i h = absurd (omega arith)
  at_place (x ∷ xs) zero h = Memᴰ.head refl
  at_place (x ∷ xs) (suc i) h = Memᴰ.tail (at_place xs i (omega arith))

  -- and what is in it stands at a place
  pub record Place (xs : List A) (a : A) : Type 0 where
    pub place : ℕ
    pub inside : place < length xs
    pub is : get_or xs place d ≡ a

  next_place : {x : A} {xs : List A} {a : A} → Place xs a → Place (x ∷ xs) a
  next_place p = record { place = suc p.place; inside = omega (arith, p.inside); is = p.is }

  pub place_of : (xs : List A) (a : A) → a ∈ xs → Place xs a
  place_of [] a m = absurd (Memᴰ.not-nil m)
  place_of (x ∷ xs) a m =
      ⊎_elim
      (λ e. record { place = 0; inside = omega arith; is = sym e })
      (λ l. next_place (place_of xs a l))
      (Memᴰ.cases_cons m)

-- ---- order

-- a place of the second list
second : (xs ys : List ℕ) (i : ℕ) → length xs ≤ i → get_or (xs ++ ys) i 0 ≡ get_or ys (i - length xs) 0
second xs ys i h =
    let e : length xs + (i - length xs) ≡ i = omega arith in
    rw e at (get_or-append-add xs ys (i - length xs) 0)

-- a rising list behind one whose numbers are all lower
pub rising_append :
    (xs ys : List ℕ) → Rising xs → Rising ys → ((a b : ℕ) → a ∈ xs → b ∈ ys → a < b) → Rising (xs ++ ys)
rising_append xs ys p q h i j l m =
    let n = length xs in
    let inside : j < n + length ys = omega (arith, length-append xs ys) in
    ⊎_elim
    (λ (k : j < n). rw (get_or-append xs ys 0 i (omega arith), get_or-append xs ys 0 j k) (p i j l k))
    (λ (k : n ≤ j).
    let behind : get_or (xs ++ ys) j 0 ≡ get_or ys (j - n) 0 = second xs ys j k in
    ⊎_elim
    (λ (f : i < n).
    rw (get_or-append xs ys 0 i f, behind)
    (h (get_or xs i 0) (get_or ys (j - n) 0) (at_place 0 xs i f) (at_place 0 ys (j - n) (omega arith))))
    (λ (f : n ≤ i). rw (second xs ys i f, behind) (q (i - n) (j - n) (omega arith) (omega arith)))
    (lt_or_ge i n))
    (lt_or_ge j n)

one_rising : (b : Bool) (n : ℕ) → Rising (cond b (n ∷ []) [])
one_rising true n i j l m = absurd (omega arith)
one_rising false n i j l m = absurd (omega arith)

pub passing_rising : (t : ℕ → Bool) (n : ℕ) → Rising (passing t n)
unfolding passing
passing_rising t zero = λ i j l m. absurd (omega arith)
passing_rising t (suc n) =
    rising_append (passing t n) (cond (t n) (n ∷ []) []) (passing_rising t n) (one_rising (t n) n)
    (λ a b p q. omega (arith, passing_only t n a p, last_is (t n) n b q))

-- ---- pairs

module _ (t : ℕ → ℕ → Bool) (end : ℕ) where
  -- a pair that is listed where lower numbers go up to n
  pub record Passes (n : ℕ) (p : Pair) : Type 0 where
    pub below : p.lower < n
    pub order : p.lower < p.higher
    pub inside : p.higher < end
    pub test : t p.lower p.higher ≡ true

  row_only : (lower : ℕ) (p : Pair) → p ∈ pairs_with t end lower → (p.lower ≡ lower) × Passes (suc lower) p
  unfolding pairs_with
  row_only lower p m =
      let f = Memᴰ.of_map (pair_of lower) (passing (above t lower) end) m in
      let a = f.0 in
      let g = passing_only (above t lower) end a f.1 in
      let lo : p.lower ≡ lower = sym (ap (λ (q : Pair). q.lower) f.2) in
      let hi : p.higher ≡ a = sym (ap (λ (q : Pair). q.higher) f.2) in (
        lo,
        record {
          below = omega arith;
          order = rw (lo, hi) (ltb-true lower a (and_left (ltb lower a) (t lower a) g.1));
          inside = rw hi g.0;
          test = rw (lo, hi) (and_right (ltb lower a) (t lower a) g.1);
        },
      )

  row_all : (lower : ℕ) (p : Pair) → p.lower ≡ lower → Passes (suc lower) p → p ∈ pairs_with t end lower
  unfolding pairs_with
  row_all lower p e f =
      let is : p ≡ pair_of lower p.higher = λ i. record { lower = e i; higher = p.higher } in
      let order : lower < p.higher = rw e at f.order in
      let passes = and_both (ltb lower p.higher) (t lower p.higher) (lt-ltb lower p.higher order) (rw e at f.test) in
      Memᴰ.cast is (Memᴰ.map (pair_of lower) (passing_all (above t lower) end p.higher f.inside passes))

  pairs_only : (n : ℕ) (p : Pair) → p ∈ pairs_below t end n → Passes n p
  unfolding pairs_below
  pairs_only zero p m = absurd (Memᴰ.not-nil m)
  pairs_only (suc n) p m =
      ⊎_elim
      (λ (l : p ∈ pairs_below t end n).
      let f = pairs_only n p l in
      record { below = omega (arith, f.below); order = f.order; inside = f.inside; test = f.test })
      (λ (l : p ∈ pairs_with t end n). (row_only n p l).1)
      (Memᴰ.append_cases (pairs_below t end n) m)

  pairs_all : (n : ℕ) (p : Pair) → Passes n p → p ∈ pairs_below t end n
  unfolding pairs_below
  pairs_all zero p f = absurd (omega (arith, f.below))
  pairs_all (suc n) p f =
      ⊎_elim
      (λ (l : p.lower < n).
      Memᴰ.append_left (pairs_with t end n)
      (pairs_all n p (record { below = l; order = f.order; inside = f.inside; test = f.test })))
      (λ (l : n ≤ p.lower). Memᴰ.append_right (pairs_below t end n) (row_all n p (omega (arith, f.below)) f))
      (lt_or_ge p.lower n)

  -- listed are exactly the pairs that pass, lower number first
  pub pairs_exactly : (n : ℕ) (p : Pair) → (p ∈ pairs_below t end n) ↔ Passes n p
  pairs_exactly n p = (pairs_only n p, pairs_all n p)

-- ---- the words of pairs

pub mapped :
    {A : Type 0} (f : ℕ → A) (d : A) (xs : List ℕ) (i : ℕ) → i < length xs → get_or (map f xs) i d ≡ f (get_or xs i 0)
mapped f d [] i h = absurd (omega arith)
mapped f d (x ∷ xs) zero h = refl
mapped f d (x ∷ xs) (suc i) h = mapped f d xs i (omega arith)

map_rising : (f : ℕ → ℕ) → ((a b : ℕ) → a < b → f a < f b) → (xs : List ℕ) → Rising xs → Rising (map f xs)
map_rising f up xs h i j l m =
    let inside : j < length xs = rw length-map at m in
    rw (mapped f 0 xs i (omega arith), mapped f 0 xs j inside) (up (get_or xs i 0) (get_or xs j 0) (h i j l inside))

module _ (t : ℕ → ℕ → Bool) (end : ℕ) (small : end ≤ 256) where
  row_rising : (lower : ℕ) → Rising (pair_words (pairs_with t end lower))
  unfolding pairs_with
  row_rising lower =
      let up : (a b : ℕ) → a < b → 256 * lower + a < 256 * lower + b = λ a b h. omega arith in
      rw map-map (map_rising (λ k. 256 * lower + k) up (passing (above t lower) end) (passing_rising (above t lower) end))

  -- rising words: by rising lower number, then by rising higher number, and no pair twice
  pub pairs_rising : (n : ℕ) → Rising (pair_words (pairs_below t end n))
  unfolding pairs_below
  pairs_rising zero = λ i j l m. absurd (omega arith)
  pairs_rising (suc n) =
      rw (map-append pair_word (pairs_below t end n) (pairs_with t end n))
      (rising_append (pair_words (pairs_below t end n)) (pair_words (pairs_with t end n)) (pairs_rising n) (row_rising n)
      (λ a b p q.
      let v = Memᴰ.of_map pair_word (pairs_below t end n) p in
      let w = Memᴰ.of_map pair_word (pairs_with t end n) q in
      let f = pairs_only t end n v.0 v.1 in
      let g = (row_only t end n w.0 w.1).0 in
      omega (arith, v.2, w.2)))
