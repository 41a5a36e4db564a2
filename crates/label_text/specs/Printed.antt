-- The label's whole text, for the area and for one cell.
use Rattle.std.specs.Prelude.{ℕ, ◌/◌, ◌%◌, ◌≤◌, cond, length, take, eqb}
use mathlib.Core.List.{List, [], ◌∷◌, ◌++◌, flat_map}
use Rattle.words.specs.declared.settings.Settings.{Settings}
use Rattle.text.specs.Line.{named_line}
use Rattle.area.specs.Area.{ground_refusal}
use Rattle.label.specs.declared.one.CellLabel.{CellLabel}
use Rattle.label.specs.declared.whole.AreaLabel.{AreaLabel}
use Rattle.label.specs.Listing.{Pair}
use Rattle.label.specs.Label.{meeting_cells, meeting_pairs, unsound_cells, sharer_numbered, cell_refusal}
use Rattle.wording.specs.Wording.{meet_line, unsound_line, refused_line}

-- `pairs` and `cells`
abbrev pub pairs_name : List ℕ
pairs_name = 112 ∷ 97 ∷ 105 ∷ 114 ∷ 115 ∷ []

abbrev pub cells_name : List ℕ
cells_name = 99 ∷ 101 ∷ 108 ∷ 108 ∷ 115 ∷ []

-- "lower number first"
abbrev pub pair_line : Pair → List ℕ
pair_line p = meet_line (sharer_numbered p.lower) (sharer_numbered p.higher)

-- a line for each pair, the unsound cells, and how many pairs there are
unfoldable pub area_lines : List ℕ → Settings → List ℕ
area_lines ram s =
    flat_map pair_line (meeting_pairs ram s)
    ++ unsound_line (unsound_cells ram s)
    ++ named_line pairs_name (length (meeting_pairs ram s))

unfoldable pub area_text : List ℕ → Settings → List ℕ
area_text ram s = cond (eqb (ground_refusal ram s) 0) (area_lines ram s) (refused_line (ground_refusal ram s))

-- a line for each cell that meets this one
abbrev pub sharer_line : ℕ → ℕ → List ℕ
sharer_line cell other = meet_line (sharer_numbered cell) (sharer_numbered other)

-- and how many there are
unfoldable pub cell_lines : List ℕ → Settings → ℕ → List ℕ
cell_lines ram s cell =
    flat_map (sharer_line cell) (meeting_cells ram s cell) ++ named_line cells_name (length (meeting_cells ram s cell))

unfoldable pub one_cell_text : List ℕ → Settings → ℕ → List ℕ
one_cell_text ram s cell =
    cond (eqb (cell_refusal ram s cell) 0) (cell_lines ram s cell) (refused_line (cell_refusal ram s cell))

-- the line of a pair's word: "lower number first", in the high byte
abbrev pub word_line : ℕ → List ℕ
word_line word = sharer_line (word / 256) (word % 256)

-- ---- the same from what the label's function hands over

-- what is counted is there
pub record AreaFits (label : AreaLabel) (pairs : List ℕ) : Type 0 where
  pub pairs_there : label.pairs ≤ length pairs
  pub unsound_there : label.unsound_count ≤ length label.unsound

unfoldable pub lines_of : AreaLabel → List ℕ → List ℕ
lines_of label pairs =
    flat_map word_line (take label.pairs pairs)
    ++ unsound_line (take label.unsound_count label.unsound)
    ++ named_line pairs_name label.pairs

pub record CellFits (label : CellLabel) : Type 0 where
  pub few : label.count ≤ 89
  pub there : label.count ≤ length label.cells

unfoldable pub cell_lines_of : ℕ → CellLabel → List ℕ
cell_lines_of cell label =
    flat_map (meet_line (sharer_numbered cell)) (take label.count label.cells) ++ named_line cells_name label.count
