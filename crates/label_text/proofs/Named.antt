-- The line of unsound cells: none, or the first and the others.
use Prim.Native.Nat.{ℕ, ◌-◌, ◌^◌, ◌<◌}
use native.Mathlib.Omega.{arith}
use mathlib.Core.Path.{◌≡◌}
use mathlib.Core.List.{List, [], ◌∷◌, flat_map}
use lib.ListN.{length, get_or, take, drop}
use lib.Seq.{take_all}
use Rattle.text.specs.declared.text.Text.{Text}
use Rattle.text.specs.Text.{Adds, newline}
use Rattle.text.proofs.Added.{adds_none, adds_then}
use Rattle.wording.specs.Wording.{cell_text, unsound_name, also_text, unsound_line}

pub no_cells : (cells : List ℕ) {t : Text} → length t.out.now < 2 ^ 64 → t.at < 2 ^ 64 → length cells ≡ 0 → Adds t (unsound_line cells) t
unfolding unsound_line
no_cells [] h k e = adds_none h k
no_cells (x ∷ xs) h k e = absurd (omega arith)

pub first_and_others :
    (cells : List ℕ) {t t₁ t₂ t₃ t₄ : Text} → 0 < length cells → Adds t unsound_name t₁ →
    Adds t₁ (cell_text (get_or cells 0 0)) t₂ → Adds t₂ (flat_map also_text (take (length cells - 1) (drop 1 cells))) t₃ → Adds t₃ newline t₄ →
    Adds t (unsound_line cells) t₄
unfolding unsound_line
first_and_others [] h a b c d = absurd (omega arith)
first_and_others (x ∷ xs) h a b c d =
    let all : take (length (x ∷ xs) - 1) xs ≡ xs = take_all (length (x ∷ xs) - 1) xs (omega arith) in
    adds_then (adds_then (adds_then a b) (rw all at c)) d
