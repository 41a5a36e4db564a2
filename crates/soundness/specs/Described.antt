-- What a cell and the stack are like.
use Rattle.std.specs.Prelude.{ℕ, false, cond, List, [], ◌∷◌, length, eqb}
use Rattle.words.specs.declared.settings.Settings.{Settings}
use Rattle.words.specs.Number.{ram_length, bad_settings}
use Rattle.words.specs.Refusal.{Test, ◌when◌, first_of}
use Rattle.words.specs.Settings.{settings_refused}
use Rattle.memory.specs.Map.{ram_refused}
use Rattle.memory.specs.Kind.{kind_number}
use Rattle.cells.specs.declared.cell.Cell.{Cell}
use Rattle.cells.specs.declared.cell.Scheme.{Scheme}
use Rattle.cells.specs.declared.cell.Scheme.TheVariants.{Single, Double, Circular}
use Rattle.cells.specs.Cell.{cell_window}
use Rattle.cells.specs.Stack.{stack_pointer, stack_window}
use Rattle.area.specs.Area.{is_read, cell_numbered}
use Rattle.soundness.specs.declared.cell.CellDescription.{CellDescription}
use Rattle.soundness.specs.declared.stack.StackDescription.{StackDescription}
use Rattle.soundness.specs.Faults.{cell_faults, stack_faults}

-- what is tested of RAM and settings: "an entry point tests exactly those about things that it is given"
abbrev pub given_tests : ℕ → Settings → List Test
given_tests words s = ram_length when ram_refused words ∷ bad_settings when settings_refused s ∷ []

unfoldable pub given_refusal : ℕ → Settings → ℕ
given_refusal words s = first_of (given_tests words s)

-- "single, double, or circular with a size"; the size is that of the window
abbrev pub scheme_number : Scheme → ℕ
scheme_number Single = 1
scheme_number Double = 2
scheme_number (Circular size) = 3

-- the cell with this number, read or not and sound or not
unfoldable pub described_cell : List ℕ → Settings → ℕ → Cell → CellDescription
described_cell ram s number c =
    record {
      number = 0;
      kind = kind_number c.kind;
      subaddress = c.subaddress;
      read = is_read s number;
      scheme = scheme_number c.scheme;
      pointer = c.pointer;
      start = (cell_window c).start;
      size = (cell_window c).size;
      faults = cell_faults (length ram) (stack_window ram s) c;
    }

-- "Result: the number, the rest zero"
unfoldable pub no_cell : ℕ → CellDescription
no_cell number =
    record {
      number = number;
      kind = 0;
      subaddress = 0;
      read = false;
      scheme = 0;
      pointer = 0;
      start = 0;
      size = 0;
      faults = 0;
    }

unfoldable pub cell_description : List ℕ → Settings → ℕ → CellDescription
cell_description ram s number =
    cond (eqb (given_refusal (length ram) s) 0)
    (described_cell ram s number (cell_numbered ram s number))
    (no_cell (given_refusal (length ram) s))

-- the stack, sound or not
unfoldable pub described_stack : List ℕ → Settings → StackDescription
described_stack ram s =
    record {
      number = 0;
      pointer = stack_pointer ram s;
      start = (stack_window ram s).start;
      size = (stack_window ram s).size;
      faults = stack_faults ram s;
    }

unfoldable pub no_stack : ℕ → StackDescription
no_stack number = record { number = number; pointer = 0; start = 0; size = 0; faults = 0 }

unfoldable pub stack_description : List ℕ → Settings → StackDescription
stack_description ram s =
    cond (eqb (given_refusal (length ram) s) 0) (described_stack ram s) (no_stack (given_refusal (length ram) s))
