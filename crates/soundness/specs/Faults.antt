-- Why a cell or the stack is unsound: a bit for each part of the sentence that does not hold, in the sentence's order.
-- No bit is set exactly where it is sound (proofs/Sound.antt).
use Rattle.std.specs.Prelude.{ℕ, ◌+◌, ◌*◌, ◌%◌, Bool, false, not, List, length, ltb, leb, eqb}
use Rattle.words.specs.declared.settings.Settings.{Settings}
use Rattle.words.specs.Bits.{bit_of}
use Rattle.windows.specs.declared.window.Window.{Window}
use Rattle.windows.specs.Window.{run_from, windows_meet, fits_below}
use Rattle.cells.specs.declared.cell.Cell.{Cell}
use Rattle.cells.specs.Cell.{cell_window, double_fits}
use Rattle.cells.specs.Stack.{stack_pointer, stack_window}

-- bits 0 to 5
abbrev pub faults_of : Bool → Bool → Bool → Bool → Bool → Bool → ℕ
faults_of a b c d e f = bit_of a + 2 * bit_of b + 4 * bit_of c + 8 * bit_of d + 16 * bit_of e + 32 * bit_of f

-- "Fixed areas are 0100-0247 and 0300-03FF."
abbrev pub low_area : Window
low_area = run_from 0x100 0x148

abbrev pub high_area : Window
high_area = run_from 0x300 0x100

-- "A cell is sound if its pointer and window lie in 0000-0FFF, a double pointer is a multiple of 32, and the window
-- meets neither a fixed area nor the active stack."
unfoldable pub cell_faults : ℕ → Window → Cell → ℕ
cell_faults words stack c =
    faults_of
    (not (ltb c.pointer words))
    (not (fits_below (cell_window c) words))
    (not (double_fits c.scheme c.pointer))
    (windows_meet (cell_window c) low_area)
    (windows_meet (cell_window c) high_area)
    (windows_meet (cell_window c) stack)

-- "The stack is sound if its pointer is a multiple of 4, at most 0FFC, and the block aligned to the stack size around
-- it lies in RAM and meets no fixed area." With the 64K card:
-- "soundness is against the given RAM's end, with the highest stack pointer 4 below its length."
unfoldable pub stack_faults : List ℕ → Settings → ℕ
stack_faults ram s =
    faults_of
    (not (eqb (stack_pointer ram s % 4) 0))
    (not (leb (stack_pointer ram s + 4) (length ram)))
    (not (fits_below (stack_window ram s) (length ram)))
    (windows_meet (stack_window ram s) low_area)
    (windows_meet (stack_window ram s) high_area)
    false
