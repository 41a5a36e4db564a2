-- The words of a listing: those of the cells that are found, over zeros.
use Prim.Native.Nat.{ℕ, zero, suc, min, ◌+◌, ◌*◌, ◌≤◌, ◌<◌}
use native.Mathlib.Nat.{min-eq_left}
use native.Mathlib.Numerals.{add-one}
use native.Mathlib.Omega.{arith}
use mathlib.Core.Path.{◌≡◌, refl, ◌∙◌}
use mathlib.Core.List.{List, [], ◌∷◌, ◌++◌, map, map-append}
use lib.ListN.{length, get_or, set, take, replicate, length-set, length-map}
use lib.Seq.{sets, set-set, set_out, take-suc}
use Rattle.std.proofs.lemmas.List.{length-take-le}
use Rattle.words.specs.Bits.{bit_of}
use Rattle.words.proofs.Runs.{sets_append}
use Rattle.words.specs.declared.settings.Settings.{Settings}
use Rattle.label.specs.declared.one.Counted.{Counted}
use Rattle.label.specs.declared.one.Sharer.{Sharer}
use Rattle.label.specs.Listing.{front}
use Rattle.label.specs.Label.{sharer_numbered, no_sharer, sharers_of, counted_of, cell_answer, cell_label}
use Rattle.label.proofs.Found.{counted_most, counted_front}
use Rattle.c_words.specs.Over.{over}
use Rattle.c_words.proofs.Order.{set_later}
use Rattle.c_words_areas.specs.Labels.{sharer_words, listing_words}

-- ---- two words for each cell

words_append : (xs ys : List Sharer) → sharer_words (xs ++ ys) ≡ sharer_words xs ++ sharer_words ys
unfolding sharer_words
words_append [] ys = refl
words_append (x ∷ xs) ys = rw (words_append xs ys)

pub words_length : (xs : List Sharer) → length (sharer_words xs) ≡ 2 * length xs
unfolding sharer_words
words_length [] = refl
words_length (x ∷ xs) = omega (arith, words_length xs)

-- those of one cell
module _ (xs : List ℕ) (at n : ℕ) (x : Sharer) (e : x ≡ sharer_numbered n) where
  pub both_put :
      (mark : ℕ) → mark ≡ bit_of x.writes →
      set (set xs at x.cell) (at + 1) mark ≡ sets xs at (sharer_words (sharer_numbered n ∷ []))
  unfolding sharer_words
  both_put mark m = rw (add-one, m, e)

  -- where there is no room for the second
  pub first_put :
      (ys : List ℕ) → ys ≡ set xs at x.cell → length xs ≤ at + 1 →
      ys ≡ sets xs at (sharer_words (sharer_numbered n ∷ []))
  unfolding sharer_words
  first_put ys p h =
      let out : length (set xs at x.cell) ≤ suc at = rw length-set (omega arith) in
      rw (← e, set_out (set xs at x.cell) (suc at) (bit_of x.writes) out) p

-- one cell more
pub words_more :
    (xs numbers : List ℕ) (k : ℕ) → k < length numbers →
    sets (sets xs 1 (sharer_words (map sharer_numbered (take k numbers)))) (1 + 2 * k) (sharer_words (sharer_numbered (get_or numbers k 0) ∷ []))
    ≡ sets xs 1 (sharer_words (map sharer_numbered (take (k + 1) numbers)))
words_more xs numbers k h =
    let before = map sharer_numbered (take k numbers) in
    let next = sharer_numbered (get_or numbers k 0) ∷ [] in
    let long : 1 + length (sharer_words before) ≡ 1 + 2 * k =
    rw (words_length before, length-map (take k numbers) sharer_numbered, length-take-le k numbers (omega arith)) in
    let m = rw long at (sets_append xs (sharer_words before) (sharer_words next) 1) in
    rw (add-one, take-suc numbers k 0 h, map-append sharer_numbered (take k numbers) (get_or numbers k 0 ∷ []), words_append before next) m

pub front_take : (numbers : List ℕ) (n : ℕ) → n ≤ length numbers → front numbers n ≡ take n numbers
unfolding front
front_take numbers zero h = refl
front_take numbers (suc n) h = rw (front_take numbers n (omega arith), take-suc numbers n 0 h)

-- ---- over zeros

words_set :
    (zs : List Sharer) (k : ℕ) (x : Sharer) →
    sharer_words (set zs k x) ≡ set (set (sharer_words zs) (2 * k) x.cell) (suc (2 * k)) (bit_of x.writes)
unfolding sharer_words
words_set [] k x = refl
words_set (z ∷ zs) zero x = refl
words_set (z ∷ zs) (suc k) x =
    let e : 2 * suc k ≡ suc (suc (2 * k)) = omega arith in
    rw (e, words_set zs k x)

words_sets :
    (zs ss : List Sharer) (k : ℕ) → sharer_words (sets zs k ss) ≡ sets (sharer_words zs) (2 * k) (sharer_words ss)
unfolding sharer_words
words_sets zs [] k = refl
words_sets zs (x ∷ ss) k =
    let e : 2 * suc k ≡ suc (suc (2 * k)) = omega arith in
    rw (words_sets (set zs k x) ss (suc k), e, words_set zs k x)

sets_behind : (y : ℕ) (l ys : List ℕ) (k : ℕ) → sets (y ∷ l) (suc k) ys ≡ y ∷ sets l k ys
sets_behind y l [] k = refl
sets_behind y l (x ∷ ys) k = sets_behind y (set l k x) ys (suc k)

-- what is put over a run that is at least as long is put into that run
over_run : (l zs ys : List ℕ) (at : ℕ) → length ys ≤ length zs → sets (sets l at zs) at ys ≡ sets l at (sets zs 0 ys)
over_run l zs [] at h = refl
over_run l [] (y ∷ ys) at h = absurd (omega arith)
over_run l (z ∷ zs) (y ∷ ys) at h =
    rw (sets_behind y zs ys 0, ← set_later (set l at z) zs at (suc at) y (omega arith), set-set l at z y)
    (over_run (set l at y) zs ys (suc at) (omega arith))

pub listing_over :
    (xs listed : List ℕ) (n : ℕ) → n ≡ length listed → n ≤ 89 →
    sets (set (sets xs 0 (replicate 179 0)) 0 n) 1 (sharer_words (map sharer_numbered listed))
    ≡ over xs (listing_words (cell_answer 0 listed))
unfolding listing_words cell_answer sharer_words
listing_over xs listed n e h =
    let ss = map sharer_numbered listed in
    let long : length (sharer_words ss) ≡ 2 * n = rw (words_length ss, length-map listed sharer_numbered, e) in
    over_run xs (replicate 179 0) (n ∷ sharer_words ss) 0 (omega arith)
    ∙ rw (sets_behind n (replicate 178 0) (sharer_words ss) 0, words_sets (replicate 89 no_sharer) ss 0, e)

-- ---- the label of a cell by what is found

module _ (ram : List ℕ) (s : Settings) (cell : ℕ) (c : Counted) (e : c ≡ counted_of ram s cell) where
  pub found_number : c.number ≡ (cell_label ram s cell).number
  unfolding counted_of cell_label cell_answer
  found_number = rw e

  pub found_words :
      (numbers xs : List ℕ) → numbers ≡ sets (replicate 89 0) 0 (sharers_of ram s cell) →
      over xs (listing_words (cell_answer 0 (front numbers (min c.count 89)))) ≡ over xs (listing_words (cell_label ram s cell))
  unfolding listing_words cell_label cell_answer
  found_words numbers xs p = rw (min-eq_left (counted_most ram s cell c e), counted_front ram s cell c e numbers p)
