-- Lines one after the other: of two lists, and one line more.
use Prim.Native.Nat.{ℕ, ◌+◌, ◌^◌, ◌<◌}
use native.Mathlib.Numerals.{add-one}
use mathlib.Core.Path.{◌≡◌, refl, sym}
use mathlib.Core.List.{List, [], ◌∷◌, ◌++◌, flat_map, append-nil, append_assoc}
use lib.ListN.{length, get_or, take}
use lib.Seq.{take-suc}
use Rattle.text.specs.declared.text.Text.{Text}
use Rattle.text.specs.Text.{Adds}
use Rattle.text.proofs.Added.{adds_none, adds_then}

module _ {A : Type 0} (line : A → List ℕ) where
  pub lines_append : (xs ys : List A) → flat_map line (xs ++ ys) ≡ flat_map line xs ++ flat_map line ys
  unfolding flat_map
  lines_append [] ys = refl
  lines_append (x ∷ xs) ys = rw (lines_append xs ys) (sym (append_assoc (line x) (flat_map line xs) (flat_map line ys)))

  pub lines_more :
      (xs : List A) (k : ℕ) (d : A) → k < length xs →
      flat_map line (take (k + 1) xs) ≡ flat_map line (take k xs) ++ line (get_or xs k d)
  unfolding flat_map
  lines_more xs k d h =
      rw (add-one, take-suc xs k d h, lines_append (take k xs) (get_or xs k d ∷ []), append-nil (line (get_or xs k d)))

  -- no line yet
  pub no_lines : {t : Text} → length t.out.now < 2 ^ 64 → t.at < 2 ^ 64 → Adds t (flat_map line []) t
  unfolding flat_map
  no_lines h k = adds_none h k

  -- one line more
  pub add_line :
      (xs : List A) (k : ℕ) (d : A) {t t₁ t₂ : Text} → k < length xs → Adds t (flat_map line (take k xs)) t₁ →
      Adds t₁ (line (get_or xs k d)) t₂ → Adds t (flat_map line (take (k + 1) xs)) t₂
  add_line xs k d h a b = rw (lines_more xs k d h) (adds_then a b)
