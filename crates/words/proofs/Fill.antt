-- What stands in a list with numbers filled in: one place more, the places filled in and those after them.
use Prim.Native.Nat.{ℕ, zero, suc, ◌+◌, ◌<◌, ◌≤◌}
use native.Mathlib.Nat.{zero-add}
use native.Mathlib.Numerals.{add-one}
use native.Mathlib.Omega.{arith}
use mathlib.Core.Path.{◌≡◌, refl, ◌∙◌}
use mathlib.Core.Logic.{⊎_elim}
use mathlib.Core.List.{List}
use lib.ListN.{length, get_or, set, length-set}
use lib.Seq.{get_or-set_same, get_or-set_other}
use Rattle.std.proofs.lemmas.Bool.{cases_eq}
use Rattle.words.specs.Fill.{fill_from, fill}

pub fill_from_more :
    (from : ℕ) (f : ℕ → ℕ) (xs : List ℕ) (n : ℕ) → fill_from from f xs (n + 1) ≡ set (fill_from from f xs n) (from + n) (f n)
unfolding fill_from
fill_from_more from f xs n = rw add-one

pub length_fill : (from : ℕ) (f : ℕ → ℕ) (xs : List ℕ) (n : ℕ) → length (fill_from from f xs n) ≡ length xs
unfolding fill_from
length_fill from f xs zero = refl
length_fill from f xs (suc n) = simp length-set (length_fill from f xs n)

-- from the front
module _ (f : ℕ → ℕ) (xs : List ℕ) where
  pub fill_more : (n : ℕ) → fill f xs (n + 1) ≡ set (fill f xs n) n (f n)
  fill_more n = rw (fill_from_more, zero-add)

  pub fill_at : (n k : ℕ) → n ≤ length xs → k < n → get_or (fill f xs n) k 0 ≡ f k
  unfolding fill_from
  fill_at zero k h l = omega arith
  fill_at (suc n) k h l =
      rw zero-add
      (⊎_elim
      (λ e.
      let p : n < length (fill f xs n) = omega (arith, length_fill 0 f xs n) in
      rw e (get_or-set_same (fill f xs n) n (f n) 0 p))
      (λ ne. get_or-set_other (fill f xs n) n k (f n) 0 ne ∙ fill_at n k (omega arith) (omega arith))
      (cases_eq k n))

  -- a place that is not yet filled in
  pub fill_later : (n k : ℕ) → n ≤ k → get_or (fill f xs n) k 0 ≡ get_or xs k 0
  unfolding fill_from
  fill_later zero k h = refl
  fill_later (suc n) k h =
      let p : (k ≡ n → ⊥) = λ e. omega arith in
      rw zero-add (get_or-set_other (fill f xs n) n k (f n) 0 p ∙ fill_later n k (omega arith))
