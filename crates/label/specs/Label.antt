-- A label on shared pages (document 02, request 1): for one cell, and for the whole area.
use Rattle.std.specs.Prelude.{ℕ, Bool, false, not, cond, ◌&&◌, List, [], ◌∷◌, ◌++◌, map, length, replicate, eqb}
use Rattle.std.proofs.lemmas.List.Edits.{sets}
use Rattle.words.specs.declared.settings.Settings.{Settings}
use Rattle.words.specs.Number.{unsound_cell}
use Rattle.words.specs.Refusal.{Test, ◌when◌, first_of}
use Rattle.memory.specs.Kind.{kind_numbered}
use Rattle.windows.specs.Window.{windows_meet}
use Rattle.cells.specs.Stack.{stack_window}
use Rattle.area.specs.Area.{is_unsound, ground_tests, ground_refusal}
use Rattle.label.specs.declared.one.Sharer.{Sharer}
use Rattle.label.specs.declared.one.CellLabel.{CellLabel}
use Rattle.label.specs.declared.one.Counted.{Counted}
use Rattle.label.specs.declared.whole.AreaLabel.{AreaLabel}
use Rattle.label.specs.Listing.{Pair, passing, pairs_below, pair_words}
use Rattle.memory.specs.Kind.{able_to_write}
use Rattle.label_spans.specs.Span.{window_numbered, read_and_sound}

-- "Unsound cells .. take no part in pairs. The cells are those the whole-area check reads."
unfoldable pub takes_part : List ℕ → Settings → ℕ → Bool
takes_part ram s number = read_and_sound ram s (stack_window ram s) number

-- "every other cell whose window meets its window", of the cells that take part
unfoldable pub cells_meet : List ℕ → Settings → ℕ → ℕ → Bool
cells_meet ram s cell other =
    (takes_part ram s cell && takes_part ram s other)
    && (not (eqb other cell) && windows_meet (window_numbered ram s cell) (window_numbered ram s other))

-- "For a cell, list in rising number every other cell whose window meets its window"
unfoldable pub meeting_cells : List ℕ → Settings → ℕ → List ℕ
meeting_cells ram s cell = passing (cells_meet ram s cell) 96

-- "For the whole area, list each meeting pair once, lower number first."
unfoldable pub meeting_pairs : List ℕ → Settings → List Pair
meeting_pairs ram s = pairs_below (cells_meet ram s) 96 96

-- "Unsound cells are named in a line of their own"
unfoldable pub unsound_cells : List ℕ → Settings → List ℕ
unsound_cells ram s = passing (is_unsound ram s (stack_window ram s)) 96

-- a cell of the listing with its mark: "and mark each as able to write or only to send"
unfoldable pub sharer_numbered : ℕ → Sharer
sharer_numbered number = record { cell = number; writes = able_to_write (kind_numbered number) }

abbrev pub no_sharer : Sharer
no_sharer = record { cell = 0; writes = false }

-- "Refusals: 1, 3 and 8, then 9 for a one-cell listing when that cell is unsound or is none of the cells listed."
abbrev pub cell_tests : List ℕ → Settings → ℕ → List Test
cell_tests ram s cell = ground_tests ram s ++ (unsound_cell when not (takes_part ram s cell) ∷ [])

unfoldable pub cell_refusal : List ℕ → Settings → ℕ → ℕ
cell_refusal ram s cell = first_of (cell_tests ram s cell)

-- what is listed, and with a refusal nothing: "the number, the rest zero"
abbrev pub unless_refused : {A : Type 0} → ℕ → List A → List A
unless_refused number listed = cond (eqb number 0) listed []

-- the cells that are listed for this one
abbrev pub sharers_of : List ℕ → Settings → ℕ → List ℕ
sharers_of ram s cell = unless_refused (cell_refusal ram s cell) (meeting_cells ram s cell)

-- the number, and how many cells are listed
unfoldable pub counted_of : List ℕ → Settings → ℕ → Counted
counted_of ram s cell = record { number = cell_refusal ram s cell; count = length (sharers_of ram s cell) }

-- the answer that lists these cells
unfoldable pub cell_answer : ℕ → List ℕ → CellLabel
cell_answer number listed =
    record {
      number = number;
      count = length listed;
      cells = sets (replicate 89 no_sharer) 0 (map sharer_numbered listed);
    }

unfoldable pub cell_label : List ℕ → Settings → ℕ → CellLabel
cell_label ram s cell = cell_answer (cell_refusal ram s cell) (sharers_of ram s cell)

-- the answer that names these unsound cells beside so many pairs
unfoldable pub area_answer : ℕ → List ℕ → ℕ → AreaLabel
area_answer number unsound pairs =
    record {
      number = number;
      unsound_count = length unsound;
      unsound = sets (replicate 90 0) 0 unsound;
      pairs = pairs;
    }

-- the pairs of the whole area; none with 1, 3 or 8
unfoldable pub area_pairs : List ℕ → Settings → List Pair
area_pairs ram s = unless_refused (ground_refusal ram s) (meeting_pairs ram s)

-- and the unsound cells, by the same rule
unfoldable pub area_unsound : List ℕ → Settings → List ℕ
area_unsound ram s = unless_refused (ground_refusal ram s) (unsound_cells ram s)

unfoldable pub area_label : List ℕ → Settings → AreaLabel
area_label ram s =
    area_answer (ground_refusal ram s) (area_unsound ram s) (length (area_pairs ram s))

-- the lent words afterwards: a word for each pair from the first place on, as far as there is room; the others keep
-- their contents
unfoldable pub pairs_into : List ℕ → Settings → List ℕ → List ℕ
pairs_into ram s room = sets room 0 (pair_words (area_pairs ram s))
