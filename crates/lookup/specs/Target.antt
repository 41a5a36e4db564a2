-- What a command is aimed at, as RAM and settings tell it: the cell and its window, and rule 2's illegal and busy.
-- It reads the cell's lookup word and control word, the illegal word and the busy word, and nothing else of RAM.
use Rattle.std.specs.Prelude.{ℕ, Bool, ◌||◌, List}
use Rattle.words.specs.declared.settings.Settings.{Settings}
use Rattle.words.specs.Command.{subaddress_of}
use Rattle.words.specs.Settings.{is_own, is_broadcast}
use Rattle.windows.specs.declared.window.Window.{Window}
use Rattle.cells.specs.declared.cell.Cell.{Cell}
use Rattle.memory.specs.Map.{is_busy_at, is_illegal_at}
use Rattle.memory.specs.Kind.{cell_number, kind_of}
use Rattle.cells.specs.Cell.{cell_at, cell_window}
use Rattle.lookup.specs.declared.target.Target.{Target}

-- the cell that a command uses
unfoldable pub cell_for : List ℕ → Settings → ℕ → Cell
cell_for ram s command = cell_at ram s.area (kind_of s command) (subaddress_of command)

-- "Illegal and busy come from the command, whether or not the message is valid." ""own" is 1 for the terminal's own
-- address and 0 for broadcast."
unfoldable pub is_illegal : List ℕ → Settings → ℕ → Bool
is_illegal ram s command = is_illegal_at ram (is_own s command) command

-- "Busy is also yes under busy-always."
unfoldable pub is_busy : List ℕ → Settings → ℕ → Bool
is_busy ram s command = is_busy_at ram (is_own s command) command || s.busy_always

abbrev pub target_with : List ℕ → Settings → ℕ → Cell → Window → Target
target_with ram s command cell window =
    record {
      cell = cell;
      number = cell_number (kind_of s command) (subaddress_of command);
      window = window;
      broadcast = is_broadcast s command;
      illegal = is_illegal ram s command;
      busy = is_busy ram s command;
    }

unfoldable pub target_of : List ℕ → Settings → ℕ → Target
target_of ram s command = target_with ram s command (cell_for ram s command) (cell_window (cell_for ram s command))
