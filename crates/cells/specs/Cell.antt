-- A cell, its scheme and window, and whether it is sound (document 01, "Cells and windows").
use Rattle.std.specs.Prelude.{ℕ, ◌*◌, ◌/◌, ◌%◌, ◌^◌, Bool, true, not, cond, ◌&&◌, ◌||◌, List, get_or, ltb, eqb}
use Rattle.words.specs.declared.settings.Area.{Area}
use Rattle.memory.specs.declared.kind.Kind.{Kind}
use Rattle.memory.specs.declared.kind.Kind.TheVariants.{Receive, Transmit, Broadcast}
use Rattle.cells.specs.declared.cell.Scheme.{Scheme}
use Rattle.cells.specs.declared.cell.Scheme.TheVariants.{Single, Double, Circular}
use Rattle.cells.specs.declared.cell.Cell.{Cell}
use Rattle.cells.specs.declared.cell.Lookup.{Lookup}
use Rattle.windows.specs.declared.window.Window.{Window}
use Rattle.memory.specs.Map.{lookup_place, control_place}
use Rattle.memory.specs.Kind.{cell_number, able_to_write}
use Rattle.windows.specs.Window.{run_from, aligned, windows_meet, meets_fixed, fits_below}

-- "transmit 14 end-of-message interrupt, 13 circular interrupt, 12-10 size; receive 9, 8, 7-5; broadcast 4, 3, 2-0":
-- the five bits of a kind, brought down to bits 4, 3, 2-0
unfoldable pub control_part : ℕ → Kind → ℕ
control_part control Receive = control / 32 % 32
control_part control Transmit = control / 1024 % 32
control_part control Broadcast = control % 32

-- "circular of 64·2^m words"
abbrev pub size_of : ℕ → ℕ
size_of m = 64 * 2 ^ m

-- "Size field 0, no double: single." "Size field 0, bit 15 set, not transmit: double." "Size field m from 1 to 7 (bit
-- 15 ignored): circular"
unfoldable pub pick_scheme : ℕ → Bool → Scheme
pick_scheme m double = cond (eqb m 0) (cond double Double Single) (Circular (size_of m))

-- what RAM says of the cell of a kind and a subaddress: its lookup word, the five bits of its kind, and whether bit 15 is
-- set and the kind heeds it, "not transmit"
unfoldable pub lookup_at : List ℕ → Area → Kind → ℕ → Lookup
lookup_at ram area kind sub =
    record {
      pointer = get_or ram (lookup_place area (cell_number kind sub)) 0;
      part = control_part (get_or ram (control_place area sub) 0) kind;
      double = eqb (get_or ram (control_place area sub) 0 / 32768) 1 && able_to_write kind;
    }

-- the cell that this describes
unfoldable pub cell_from : Kind → ℕ → Lookup → Cell
cell_from kind sub l =
    record {
      kind = kind;
      subaddress = sub;
      pointer = l.pointer;
      scheme = pick_scheme (l.part % 8) l.double;
      circular_interrupt = eqb (l.part / 8 % 2) 1;
      end_interrupt = eqb (l.part / 16 % 2) 1;
    }

-- the cell of a kind and a subaddress, as RAM describes it
unfoldable pub cell_at : List ℕ → Area → Kind → ℕ → Cell
cell_at ram area kind sub = cell_from kind sub (lookup_at ram area kind sub)

-- single: "the 32 words from the pointer"; double: "the 64 words aligned to 64 around it"; circular: "aligned to that
-- size, around the pointer"
unfoldable pub window_of : Scheme → ℕ → Window
window_of Single pointer = run_from pointer 32
window_of Double pointer = aligned pointer 64
window_of (Circular size) pointer = aligned pointer size

-- "a double pointer is a multiple of 32"
unfoldable pub double_fits : Scheme → ℕ → Bool
double_fits Single pointer = true
double_fits Double pointer = eqb (pointer % 32) 0
double_fits (Circular size) pointer = true

-- the window of a cell that is read
abbrev pub cell_window : Cell → Window
cell_window c = window_of c.scheme c.pointer

-- "A cell is sound if its pointer and window lie in 0000-0FFF, a double pointer is a multiple of 32, and the window
-- meets neither a fixed area nor the active stack." With the 64K card: "soundness is against the given RAM's end".
abbrev pub sound_within : ℕ → Window → Cell → Window → Bool
sound_within words stack c w =
    ((ltb c.pointer words && fits_below w words) && double_fits c.scheme c.pointer)
    && not (meets_fixed w || windows_meet w stack)

unfoldable pub sound_cell : ℕ → Window → Cell → Bool
sound_cell words stack c = sound_within words stack c (cell_window c)
