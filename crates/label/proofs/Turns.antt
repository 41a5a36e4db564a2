-- What one more turn of a loop makes of its listing, and of the answer that holds it.
use Prim.Native.Nat.{ℕ, zero, suc, ◌+◌, ◌*◌, ◌<◌, ◌≤◌}
use native.Mathlib.Nat.{add-zero, add-suc, zero-add}
use native.Mathlib.Numerals.{add-one}
use native.Mathlib.Omega.{arith}
use mathlib.Core.Path.{◌≡◌, refl, ◌∙◌}
use mathlib.Core.Logic.{⊎_elim}
use mathlib.Core.Bool.{Bool, true, false, cond, and-false}
use mathlib.Core.List.{List, [], ◌∷◌, ◌++◌, map, map-append, map-id, map-map, append-nil}
use lib.ListN.{length, get_or, set, take, drop, length-append, length-map, replicate}
use lib.Seq.{sets, sets-eq, length-sets, take_all, take-suc, take-append_seam, length-take-le}
use Rattle.std.proofs.lemmas.List.{map_more}
use lib.Dec.{ltb}
use borrow.Author.Tests.{le-ltb}
use Rattle.words.proofs.Basics.{lt_or_ge}
use Rattle.label.specs.declared.one.Sharer.{Sharer}
use Rattle.label.specs.Listing.{Pair, pair_of, above, front, passing, pairs_with, pairs_below, pair_word, pair_words}
use Rattle.label.specs.Label.{sharer_numbered, no_sharer, cell_answer, area_answer}
use Rattle.label.proofs.Stored.{run_append, run_more}

-- ---- a listing

module _ (test : ℕ → Bool) where
  pub passing_yes : (n : ℕ) → test n ≡ true → passing test (n + 1) ≡ passing test n ++ (n ∷ [])
  unfolding passing
  passing_yes n e = rw (add-one, e)

  pub passing_no : (n : ℕ) → test n ≡ false → passing test (n + 1) ≡ passing test n
  unfolding passing
  passing_no n e = rw (add-one, e) (append-nil (passing test n))

  -- at most one number a turn
  one_at_most : (b : Bool) (n : ℕ) → length (cond b (n ∷ []) []) ≤ 1
  one_at_most true n = omega arith
  one_at_most false n = omega arith

  pub passing_most : (n : ℕ) → length (passing test n) ≤ n
  unfolding passing
  passing_most zero = omega arith
  passing_most (suc n) = rw length-append (omega (arith, passing_most n, one_at_most (test n) n))

  -- where none passes, nothing is listed
  pub passing_none : (n : ℕ) → ((k : ℕ) → k < n → test k ≡ false) → passing test n ≡ []
  unfolding passing
  passing_none zero h = refl
  passing_none (suc n) h = rw (passing_none n (λ k l. h k (omega arith)), h n (omega arith))

  -- and where none of the last passes, nothing more
  pub passing_stays :
      (n d : ℕ) → ((k : ℕ) → n ≤ k → k < n + d → test k ≡ false) → passing test (n + d) ≡ passing test n
  unfolding passing
  passing_stays n zero h = rw add-zero
  passing_stays n (suc d) h =
      rw (add-suc, h (n + d) (omega arith) (omega arith), append-nil (passing test (n + d)))
      (passing_stays n d (λ k l p. h k l (omega arith)))

-- tests that agree list the same
pub passing_same :
    (t u : ℕ → Bool) (n : ℕ) → ((k : ℕ) → k < n → t k ≡ u k) → passing t n ≡ passing u n
unfolding passing
passing_same t u zero h = refl
passing_same t u (suc n) h = rw (passing_same t u n (λ k l. h k (omega arith)), h n (omega arith))

-- ---- pairs

module _ (meet : ℕ → ℕ → Bool) where
  -- no number up to the lower is the higher
  pub above_none : (lower : ℕ) → passing (above meet lower) (lower + 1) ≡ []
  above_none lower =
      passing_none (above meet lower) (lower + 1) (λ k l. rw (le-ltb lower k (omega arith)))

  module _ (end : ℕ) where
    pub pairs_more : (n : ℕ) → pairs_below meet end (n + 1) ≡ pairs_below meet end n ++ pairs_with meet end n
    unfolding pairs_below
    pairs_more n = rw add-one

    pairs_with_most : (lower : ℕ) → end ≤ 96 → length (pairs_with meet end lower) ≤ 96
    unfolding pairs_with
    pairs_with_most lower h = rw length-map (omega (arith, passing_most (above meet lower) end))

    pub pairs_most : (n : ℕ) → end ≤ 96 → length (pairs_below meet end n) ≤ 96 * n
    unfolding pairs_below
    pairs_most zero h = omega arith
    pairs_most (suc n) h = rw length-append (omega (arith, pairs_most n h, pairs_with_most n h))

    pub pairs_fit : (count : ℕ) → end ≤ 96 → count ≡ length (pairs_below meet end end) → count ≤ 9216
    pairs_fit count h e = omega (arith, pairs_most end h)

    -- nothing passes with this number as the lower
    pub row_empty : (lower : ℕ) → ((k : ℕ) → meet lower k ≡ false) → pairs_with meet end lower ≡ []
    unfolding pairs_with
    row_empty lower h =
        let none : passing (above meet lower) end ≡ [] =
        passing_none (above meet lower) end (λ k l. rw (h k) (and-false (ltb lower k))) in
        rw none

  -- numbers that meet none may be left out at the end
  module _ (end d : ℕ) (h : (k l : ℕ) → end ≤ l → meet k l ≡ false) (g : (k l : ℕ) → end ≤ k → meet k l ≡ false) where
    row_stays : (lower : ℕ) → pairs_with meet (end + d) lower ≡ pairs_with meet end lower
    unfolding pairs_with
    row_stays lower =
        rw (passing_stays (above meet lower) end d (λ k p q. rw (h lower k p) (and-false (ltb lower k))))

    rows_stay : (n : ℕ) → pairs_below meet (end + d) n ≡ pairs_below meet end n
    unfolding pairs_below
    rows_stay zero = refl
    rows_stay (suc n) = rw (rows_stay n, row_stays n)

    pub pairs_stay : (e : ℕ) → pairs_below meet (end + d) (end + e) ≡ pairs_below meet end end
    unfolding pairs_below
    pairs_stay zero = rw add-zero (rows_stay end)
    pairs_stay (suc e) =
        rw (add-suc, row_empty (end + d) (end + e) (λ k. g (end + e) k (omega arith)), append-nil (pairs_below meet (end + d) (end + e)))
        (pairs_stay e)

-- tests that agree give the same pairs
row_same :
    (t u : ℕ → ℕ → Bool) (end k : ℕ) → ((l : ℕ) → k < l → l < end → t k l ≡ u k l) →
    pairs_with t end k ≡ pairs_with u end k
unfolding pairs_with
row_same t u end k h =
    rw (passing_same (above t k) (above u k) end
    (λ l p.
    ⊎_elim
    (λ (q : k < l). rw (h l q p))
    (λ (q : l ≤ k). rw (le-ltb k l q))
    (lt_or_ge k l)))

pub pairs_same :
    (t u : ℕ → ℕ → Bool) (end n : ℕ) → ((k l : ℕ) → k < l → l < end → t k l ≡ u k l) →
    pairs_below t end n ≡ pairs_below u end n
unfolding pairs_below
pairs_same t u end zero h = refl
pairs_same t u end (suc n) h = rw (pairs_same t u end n h, row_same t u end n (h n))

-- a row behind the rows before it
pub rows_more :
    (room : List ℕ) (before row : List Pair) →
    sets (sets room 0 (map pair_word before)) (length before) (map pair_word row)
    ≡ sets room 0 (pair_words (before ++ row))
rows_more room before row =
    let n : 0 + length (map pair_word before) ≡ length before = zero-add _ ∙ length-map before pair_word in
    rw (map-append pair_word before row, ← run_append room (map pair_word before) (map pair_word row) 0, n)

-- ---- turns of the loops that list

-- what is made of the numbers below n that pass stands in a list from the place `used` on, and `at` is the place after
-- it
pub record Run {A : Type 0} (f : ℕ → A) (t : ℕ → Bool) (n used : ℕ) (room now : List A) (at : ℕ) : Type 0 where
  pub words : now ≡ sets room used (map f (passing t n))
  pub place : at ≡ used + length (passing t n)

module _ {A : Type 0} (f : ℕ → A) (t : ℕ → Bool) (n used : ℕ) (room now : List A) (at : ℕ) where
  pub run_starts : passing t n ≡ [] → now ≡ room → at ≡ used → Run f t n used room now at
  run_starts e p q = record { words = rw e p; place = rw e (omega arith) }

  module _ (run : Run f t n used room now at) where
    pub run_put :
        (x : A) (next : List A) (place : ℕ) → x ≡ f n → next ≡ set now at x → place ≡ at + 1 → t n ≡ true →
        Run f t (n + 1) used room next place
    run_put x next place i e q y =
        let listed = passing t n in
        let m = run_more room (map f listed) (f n) used in
        let long : length (map f listed) ≡ length listed = length-map listed f in
        record {
          words = rw (passing_yes t n y, e, i, run.words, run.place, map-append f listed (n ∷ []), ← m, long);
          place = rw (passing_yes t n y, length-append) (omega (arith, run.place));
        }

    pub run_passed :
        (next : List A) (place : ℕ) → next ≡ now → place ≡ at → t n ≡ false → Run f t (n + 1) used room next place
    run_passed next place e q y =
        record {
          words = rw (passing_no t n y, e) run.words;
          place = rw (passing_no t n y, q) run.place;
        }

    pub run_small : n ≤ 96 → at ≤ used + 96
    run_small l = omega (arith, passing_most t n, run.place)

-- ---- the answers that hold what is listed

pub length_front : (numbers : List ℕ) (n : ℕ) → length (front numbers n) ≡ n
unfolding front
length_front numbers zero = refl
length_front numbers (suc n) = rw length-append (omega (arith, length_front numbers n))

pub front_take : (numbers : List ℕ) (n : ℕ) → n ≤ length numbers → front numbers n ≡ take n numbers
unfolding front
front_take numbers zero h = refl
front_take numbers (suc n) h = rw (front_take numbers n (omega arith), take-suc numbers n 0 h)

-- what was put at the front of a list is read there
pub front_back :
    (room listed : List ℕ) → length listed ≤ length room → front (sets room 0 listed) (length listed) ≡ listed
front_back room listed h =
    front_take (sets room 0 listed) (length listed) (rw length-sets h)
    ∙ rw (sets-eq listed room 0 (omega arith)) (take-append_seam listed (drop (0 + length listed) room))

-- one cell more of those that are listed
pub listed_more :
    {A : Type 0} (f : ℕ → A) (room : List A) (listed : List ℕ) (k : ℕ) → k < length listed →
    set (sets room 0 (map f (take k listed))) k (f (get_or listed k 0)) ≡ sets room 0 (map f (take (k + 1) listed))
listed_more f room listed k h =
    let before = map f (take k listed) in
    let m = run_more room before (f (get_or listed k 0)) 0 in
    let long : 0 + length before ≡ k = zero-add _ ∙ length-map (take k listed) f ∙ length-take-le k listed (omega arith) in
    rw (map_more f listed k 0 h, ← m, long)

pub listed_told :
    (number : ℕ) (listed : List ℕ) (k : ℕ) (cells : List Sharer) → length listed ≤ k →
    cells ≡ sets (replicate 89 no_sharer) 0 (map sharer_numbered (take k listed)) →
    record { number = number; count = length listed; cells = cells } ≡ cell_answer number listed
unfolding cell_answer
listed_told number listed k cells h e = rw (e, take_all k listed h)

abbrev pub itself : ℕ → ℕ
itself n = n

pub unsound_told :
    (t : ℕ → Bool) (n : ℕ) (cells : List ℕ) (count pairs : ℕ) → Run itself t n 0 (replicate 90 0) cells count →
    record { number = 0; unsound_count = count; unsound = cells; pairs = pairs } ≡ area_answer 0 (passing t n) pairs
unfolding area_answer
unsound_told t n cells count pairs run =
    rw (run.words, run.place, map-id (passing t n), zero-add (length (passing t n)))

-- ---- turns of the loop that puts pairs

-- the word of a pair, by its lower number
abbrev pub word_from : ℕ → ℕ → ℕ
word_from lower higher = pair_word (pair_of lower higher)

-- the pairs of `lower` with numbers below n
abbrev pub Row : (ℕ → ℕ → Bool) → ℕ → ℕ → ℕ → List ℕ → List ℕ → ℕ → Type 0
Row t lower n used room now at = Run (word_from lower) (above t lower) n used room now at

-- the whole row
pub row_done :
    (t : ℕ → ℕ → Bool) (lower n used : ℕ) (room now : List ℕ) (at : ℕ) → Row t lower n used room now at →
    (end : ℕ) → n ≡ end →
    (now ≡ sets room used (pair_words (pairs_with t end lower))) × (at ≡ used + length (pairs_with t end lower))
unfolding pairs_with
row_done t lower n used room now at row end e =
    (rw (map-map pair_word (pair_of lower)) (rw e at row.words), rw length-map (rw e at row.place))

-- a number that meets none has no row
pub row_skipped :
    (t : ℕ → ℕ → Bool) (end lower used : ℕ) (room : List ℕ) → ((k : ℕ) → t lower k ≡ false) →
    (room ≡ sets room used (pair_words (pairs_with t end lower))) × (used ≡ used + length (pairs_with t end lower))
row_skipped t end lower used room h = (rw (row_empty t end lower h), rw (row_empty t end lower h) (omega arith))

-- ---- turns of the loop over the rows

-- the pairs whose lower number is below n stand at the front of the slice, and there are so many
pub record Rows (t : ℕ → ℕ → Bool) (end n : ℕ) (room now : List ℕ) (used : ℕ) : Type 0 where
  pub words : now ≡ sets room 0 (pair_words (pairs_below t end n))
  pub count : used ≡ length (pairs_below t end n)

pub no_rows : (t : ℕ → ℕ → Bool) (end : ℕ) (room : List ℕ) → Rows t end 0 room room 0
unfolding pairs_below
no_rows t end room = record { words = refl; count = refl }

module _ (t : ℕ → ℕ → Bool) (end n : ℕ) (room now : List ℕ) (used : ℕ) (rows : Rows t end n room now used) where
  pub rows_put :
      (next : List ℕ) (place : ℕ) → next ≡ sets now used (pair_words (pairs_with t end n)) →
      place ≡ used + length (pairs_with t end n) → Rows t end (n + 1) room next place
  rows_put next place f q =
      record {
        words = rw (pairs_more t end n, f, rows.words, rows.count) (rows_more room (pairs_below t end n) (pairs_with t end n));
        count = rw (pairs_more t end n, length-append, q, rows.count);
      }

  pub rows_small : end ≤ 96 → n ≤ 96 → used ≤ 9216
  rows_small h l = omega (arith, pairs_most t end n h, rows.count)
