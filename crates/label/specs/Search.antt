-- For the code alone: the search for the cells that meet one, by its window, kind by kind.
use Rattle.std.specs.Prelude.{ℕ, Bool, not, ◌&&◌, List, map, length, eqb, leb}
use Rattle.words.specs.declared.settings.Settings.{Settings}
use Rattle.memory.specs.declared.kind.Kind.{Kind}
use Rattle.memory.specs.Kind.{cell_number}
use Rattle.windows.specs.declared.window.Window.{Window}
use Rattle.windows.specs.Window.{windows_meet}
use Rattle.cells.specs.Cell.{cell_at, cell_window, sound_cell}
use Rattle.label.specs.Listing.{passing}

-- a sound cell other than `cell`, whose window meets `own`, the window of `cell`
unfoldable pub shares_window : List ℕ → Settings → Window → Window → ℕ → Kind → ℕ → Bool
shares_window ram s stack own cell kind sub =
    windows_meet own (cell_window (cell_at ram s.area kind sub))
    && (not (eqb (cell_number kind sub) cell) && sound_cell (length ram) stack (cell_at ram s.area kind sub))

-- and "subaddresses 1-30"
unfoldable pub shares_at : List ℕ → Settings → Window → Window → ℕ → Kind → ℕ → Bool
shares_at ram s stack own cell kind sub = (leb 1 sub && leb sub 30) && shares_window ram s stack own cell kind sub

-- those of one kind, in rising number
unfoldable pub sharers_of_kind : List ℕ → Settings → Window → Window → ℕ → Kind → List ℕ
sharers_of_kind ram s stack own cell kind = map (cell_number kind) (passing (shares_at ram s stack own cell kind) 32)
