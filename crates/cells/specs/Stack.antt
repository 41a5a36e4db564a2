-- The active stack and whether it is sound.
use Rattle.std.specs.Prelude.{ℕ, ◌+◌, ◌%◌, Bool, not, ◌&&◌, List, length, get_or, leb, eqb}
use Rattle.words.specs.declared.settings.Settings.{Settings}
use Rattle.windows.specs.declared.window.Window.{Window}
use Rattle.memory.specs.Map.{stack_pointer_place}
use Rattle.windows.specs.Window.{aligned, meets_fixed, fits_below}

-- "0100 / 0104: stack pointer, area A / B"
unfoldable pub stack_pointer : List ℕ → Settings → ℕ
stack_pointer ram s = get_or ram (stack_pointer_place s.area) 0

-- "the block aligned to the stack size around it"
unfoldable pub stack_window : List ℕ → Settings → Window
stack_window ram s = aligned (stack_pointer ram s) s.stack_size

-- "The stack is sound if its pointer is a multiple of 4, at most 0FFC, and the block aligned to the stack size around
-- it lies in RAM and meets no fixed area." With the 64K card:
-- "soundness is against the given RAM's end, with the highest stack pointer 4 below its length."
abbrev pub stack_fits : ℕ → ℕ → Window → Bool
stack_fits words pointer block =
    (eqb (pointer % 4) 0 && leb (pointer + 4) words) && (fits_below block words && not (meets_fixed block))

unfoldable pub stack_sound : List ℕ → Settings → Bool
stack_sound ram s = stack_fits (length ram) (stack_pointer ram s) (stack_window ram s)
