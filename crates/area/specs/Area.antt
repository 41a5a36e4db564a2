-- The whole-area check. "The whole-area check answers the first of 1, 3, 8, or 9 with the lowest unsound cell number
-- among subaddresses 1-30; broadcast cells are read only if separate-broadcast is on."
use Rattle.std.specs.Prelude.{ℕ, zero, suc, ◌%◌, ◌<◌, ◌≡◌, Bool, true, false, not, cond, ◌&&◌, ◌||◌, List, [], ◌∷◌, ◌++◌, length, ltb, leb, eqb}
use Rattle.words.specs.declared.settings.Settings.{Settings}
use Rattle.words.specs.Number.{ram_length, bad_settings, unsound_stack, unsound_cell}
use Rattle.words.specs.Refusal.{Test, ◌when◌, first_of}
use Rattle.words.specs.Settings.{settings_refused, has_broadcast_cells}
use Rattle.cells.specs.declared.cell.Cell.{Cell}
use Rattle.windows.specs.declared.window.Window.{Window}
use Rattle.area.specs.declared.area.Checked.{Checked}
use Rattle.memory.specs.Map.{ram_refused}
use Rattle.memory.specs.Kind.{kind_numbered}
use Rattle.cells.specs.Cell.{cell_at, sound_cell}
use Rattle.cells.specs.Stack.{stack_window, stack_sound}

-- which cells are read, by number and in rising order: "subaddresses 1-30; broadcast cells .. only if
-- separate-broadcast is on", and with broadcast off "broadcast cells are not read by the whole-area check"
unfoldable pub is_read : Settings → ℕ → Bool
is_read s number =
    (leb 1 (number % 32) && leb (number % 32) 30) && (ltb number 64 || (has_broadcast_cells s && ltb number 96))

-- no cell from this number on is read
abbrev pub read_end : Settings → ℕ
read_end s = cond (has_broadcast_cells s) 96 64

-- the cell with this number
unfoldable pub cell_numbered : List ℕ → Settings → ℕ → Cell
cell_numbered ram s number = cell_at ram s.area (kind_numbered number) (number % 32)

-- a cell that is read and not sound
unfoldable pub is_unsound : List ℕ → Settings → Window → ℕ → Bool
is_unsound ram s stack number = is_read s number && not (sound_cell (length ram) stack (cell_numbered ram s number))

-- a number found before stays; else this one if it is bad
unfoldable pub or_else : ℕ → Bool → ℕ → ℕ
or_else found bad number = cond (eqb found 0) (cond bad number 0) found

-- the lowest number below n that is bad, or 0 (number 0 is no cell that is read)
unfoldable pub lowest : (ℕ → Bool) → ℕ → ℕ
lowest bad zero = 0
lowest bad (suc n) = or_else (lowest bad n) (bad n) n

-- "the lowest unsound cell number"
unfoldable pub lowest_unsound : List ℕ → Settings → ℕ
lowest_unsound ram s = lowest (is_unsound ram s (stack_window ram s)) 96

-- the same as a fact: a cell is bad, and no cell with a lower number is
pub record LowestUnsound (ram : List ℕ) (s : Settings) (cell : ℕ) : Type 0 where
  pub unsound : is_unsound ram s (stack_window ram s) cell ≡ true
  pub first : (n : ℕ) → n < cell → is_unsound ram s (stack_window ram s) n ≡ false

-- what is tested of RAM and settings before a cell is looked at
abbrev pub ground_tests : List ℕ → Settings → List Test
ground_tests ram s =
    ram_length when ram_refused (length ram)
    ∷ bad_settings when settings_refused s
    ∷ unsound_stack when not (stack_sound ram s)
    ∷ []

-- the check's tests: "the first of 1, 3, 8, or 9"
abbrev pub area_tests : List ℕ → Settings → List Test
area_tests ram s = ground_tests ram s ++ (unsound_cell when not (eqb (lowest_unsound ram s) 0) ∷ [])

unfoldable pub area_refusal : List ℕ → Settings → ℕ
area_refusal ram s = first_of (area_tests ram s)

-- the same with no cell looked at
unfoldable pub ground_refusal : List ℕ → Settings → ℕ
ground_refusal ram s = first_of (ground_tests ram s)

-- "only the whole-area check adds a cell number, to 9"
unfoldable pub check_area : List ℕ → Settings → Checked
check_area ram s =
    record { number = area_refusal ram s; cell = cond (eqb (area_refusal ram s) unsound_cell) (lowest_unsound ram s) 0 }
