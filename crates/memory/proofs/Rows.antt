-- Lists in a row: their length, and what holds of each, in parts and through `map`.
use Prim.Native.Nat.{ℕ, zero, suc, ◌<◌}
use native.Mathlib.Omega.{arith}
use mathlib.Core.Path.{◌≡◌, refl}
use mathlib.Core.List.{List, [], ◌∷◌, ◌++◌, map, map-append}
use lib.ListN.{length, length-append}
use Rattle.memory.specs.Rows.{row, Each}

module _ {A : Type 0} where
  pub length_row : (f : ℕ → A) (n : ℕ) → length (row f n) ≡ n
  unfolding row
  length_row f zero = refl
  length_row f (suc n) = simp (length-append, length_row f n) (omega arith)

  -- what is asked of each of a row
  pub map_row : {B : Type 0} (g : A → B) (f : ℕ → A) (n : ℕ) → map g (row f n) ≡ row (λ k. g (f k)) n
  unfolding row
  map_row g f zero = refl
  map_row g f (suc n) = rw (map-append, map_row g f n)

  pub each_append : (P : A → Type 0) (xs ys : List A) → Each P xs → Each P ys → Each P (xs ++ ys)
  each_append P [] ys h k = k
  each_append P (x ∷ xs) ys h k = (h.0, each_append P xs ys h.1 k)

  pub each_row : (P : A → Type 0) (f : ℕ → A) (n : ℕ) → ((k : ℕ) → k < n → P (f k)) → Each P (row f n)
  unfolding row
  each_row P f zero h = tt
  each_row P f (suc n) h = each_append P (row f n) (f n ∷ []) (each_row P f n (λ k l. h k (omega arith))) (h n (omega arith), tt)

  -- one of them
  pub each_middle : (P : A → Type 0) (xs : List A) (y : A) (ys : List A) → Each P (xs ++ (y ∷ ys)) → P y
  each_middle P [] y ys h = h.0
  each_middle P (x ∷ xs) y ys h = each_middle P xs y ys h.1
