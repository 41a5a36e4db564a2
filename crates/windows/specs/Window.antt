-- Windows, wrapping inside them, and whether two share a word. Everything is stated over the size.
use Rattle.std.specs.Prelude.{ℕ, ◌+◌, ◌-◌, ◌%◌, Bool, ◌&&◌, ◌||◌, ltb, leb}
use Rattle.windows.specs.declared.window.Window.{Window}

-- "The window is the .. words from the pointer."
unfoldable pub run_from : ℕ → ℕ → Window
run_from pointer size = record { start = pointer; size = size; offset = 0 }

-- "aligned to that size, around the pointer"
unfoldable pub aligned : ℕ → ℕ → Window
aligned pointer size = record { start = pointer - pointer % size; size = size; offset = pointer % size }

-- place k of a window: "from the lookup pointer on, at rising addresses, wrapping inside a circular window"
unfoldable pub place_of : Window → ℕ → ℕ
place_of w k = w.start + (w.offset + k) % w.size

-- "offset + k reached or passed the size"
unfoldable pub rolls_over : Window → ℕ → Bool
rolls_over w k = leb w.size (w.offset + k)

-- the n words from a and the m words from b share a word
unfoldable pub meets : ℕ → ℕ → ℕ → ℕ → Bool
meets a n b m = ltb a (b + m) && ltb b (a + n)

abbrev pub windows_meet : Window → Window → Bool
windows_meet v w = meets v.start v.size w.start w.size

-- "Fixed areas are 0100-0247 and 0300-03FF."
unfoldable pub meets_fixed : Window → Bool
meets_fixed w = meets w.start w.size 0x100 0x148 || meets w.start w.size 0x300 0x100

-- the window lies in RAM of this length
abbrev pub fits_below : Window → ℕ → Bool
fits_below w words = leb (w.start + w.size) words
