-- How long the label's text is: too short to reach the last place that can be counted.
use Prim.Native.Nat.{ℕ, ◌*◌, ◌^◌, ◌<◌, ◌≤◌}
use native.Mathlib.Omega.{arith}
use mathlib.Core.Path.{◌≡◌}
use mathlib.Core.Logic.{⊎_elim}
use mathlib.Core.Bool.{true, false}
use mathlib.Core.List.{List, [], ◌∷◌, flat_map}
use lib.ListN.{length, length-append}
use lib.Dec.{eqb}
use Rattle.words.proofs.Basics.{yes_or_no}
use Rattle.words.specs.declared.settings.Settings.{Settings}
use Rattle.area.specs.Area.{ground_refusal}
use Rattle.label.specs.Label.{meeting_cells, meeting_pairs, unsound_cells, cell_refusal}
use Rattle.label.proofs.Most.{unsound_most, meeting_most, meeting_pairs_most}
use Rattle.text.proofs.Lines.{named_most}
use Rattle.wording.specs.Wording.{also_text, unsound_line}
use Rattle.wording.proofs.Lengths.{cell_most, meet_most, also_most, refused_most}
use Rattle.label_text.specs.Printed.{pair_line, pairs_name, cells_name, area_lines, area_text, sharer_line, cell_lines, one_cell_text}

-- lines of which each has at most m bytes
lines_most :
    {A : Type 0} (line : A → List ℕ) (m : ℕ) →
    ((x : A) → length (line x) ≤ m) →
    (xs : List A) →
    length (flat_map line xs) ≤ m * length xs
unfolding flat_map
lines_most line m h [] = omega arith
lines_most line m h (x ∷ xs) = rw length-append (omega (arith, h x, lines_most line m h xs))

unsound_line_most : (cells : List ℕ) → length cells ≤ 90 → length (unsound_line cells) ≤ 3000
unfolding unsound_line
unsound_line_most [] h = omega arith
unsound_line_most (x ∷ xs) h = simp length-append (omega (arith, cell_most x, lines_most also_text 32 also_most xs))

-- a buffer of so many bytes has room for the label of any area
pub area_room : (ram : List ℕ) (s : Settings) → length (area_text ram s) ≤ 350000
unfolding area_text area_lines
area_room ram s =
    let pairs = meeting_pairs ram s in
    ⊎_elim (λ (e : eqb (ground_refusal ram s) 0 ≡ true). rw e (simp length-append
    (omega (
      arith,
      lines_most pair_line 86 (λ p. meet_most _ _) pairs,
      meeting_pairs_most ram s,
      unsound_line_most (unsound_cells ram s) (unsound_most ram s),
      named_most pairs_name (length pairs),
    ))))
    (λ (e : eqb (ground_refusal ram s) 0 ≡ false). rw e (omega (arith, refused_most (ground_refusal ram s))))
    (yes_or_no (eqb (ground_refusal ram s) 0))

pub area_most : (ram : List ℕ) (s : Settings) → length (area_text ram s) < 2 ^ 64
area_most ram s = omega (arith, area_room ram s)

pub cell_text_most : (ram : List ℕ) (s : Settings) (cell : ℕ) → length (one_cell_text ram s cell) < 2 ^ 64
unfolding one_cell_text cell_lines
cell_text_most ram s cell =
    let cells = meeting_cells ram s cell in
    ⊎_elim (λ (e : eqb (cell_refusal ram s cell) 0 ≡ true). rw e (rw length-append
    (omega (
      arith,
      lines_most (sharer_line cell) 86 (λ other. meet_most _ _) cells,
      meeting_most ram s cell,
      named_most cells_name (length cells),
    ))))
    (λ (e : eqb (cell_refusal ram s cell) 0 ≡ false). rw e (omega (arith, refused_most (cell_refusal ram s cell))))
    (yes_or_no (eqb (cell_refusal ram s cell) 0))
