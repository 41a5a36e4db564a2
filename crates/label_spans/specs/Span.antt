-- A cell's window as two addresses, read once for each cell, so that two cells are compared without asking RAM again.
use Rattle.std.specs.Prelude.{ℕ, ◌+◌, Bool, cond, ◌&&◌, List, map, length, get_or, ltb, eqb}
use Rattle.words.specs.declared.settings.Settings.{Settings}
use Rattle.windows.specs.declared.window.Window.{Window}
use Rattle.words.specs.Fill.{fill}
use Rattle.cells.specs.Stack.{stack_window}
use Rattle.cells.specs.Cell.{cell_window, sound_cell}
use Rattle.area.specs.Area.{is_read, cell_numbered}
use Rattle.label_spans.specs.declared.span.Span.{Span}

-- the window of the cell with this number
abbrev pub window_numbered : List ℕ → Settings → ℕ → Window
window_numbered ram s number = cell_window (cell_numbered ram s number)

-- read by the whole-area check, and sound
unfoldable pub read_and_sound : List ℕ → Settings → Window → ℕ → Bool
read_and_sound ram s stack number = is_read s number && sound_cell (length ram) stack (cell_numbered ram s number)

-- where a window begins, and the address after its last
abbrev pub span_of_window : Window → Span
span_of_window w = record { start = w.start; end = w.start + w.size }

-- no address at all
abbrev pub no_span : Span
no_span = record { start = 0; end = 0 }

-- of a cell that takes no part: none
unfoldable pub span_of : List ℕ → Settings → Window → ℕ → Span
span_of ram s stack number =
    cond (read_and_sound ram s stack number) (span_of_window (window_numbered ram s number)) no_span

-- where the spans of a list begin, and where they end
abbrev pub starts_of : List Span → List ℕ
starts_of spans = map (λ v. v.start) spans

abbrev pub ends_of : List Span → List ℕ
ends_of spans = map (λ v. v.end) spans

-- the spans of all cells, each at its number: where they begin, and where they end
abbrev pub starts_into : List ℕ → Settings → List ℕ → List ℕ
starts_into ram s places = fill (λ number. (span_of ram s (stack_window ram s) number).start) places 96

abbrev pub ends_into : List ℕ → Settings → List ℕ → List ℕ
ends_into ram s places = fill (λ number. (span_of ram s (stack_window ram s) number).end) places 96

unfoldable pub spans_meet : Span → Span → Bool
spans_meet v w = ltb v.start w.end && ltb w.start v.end

-- the span at a place of a list
abbrev pub span_at : List Span → ℕ → Span
span_at spans number = get_or spans number no_span

unfoldable pub places_meet : List Span → ℕ → ℕ → Bool
places_meet spans cell other = spans_meet (span_at spans cell) (span_at spans other)

-- read, and there is no address in its window: a cell that is unsound
unfoldable pub read_in_vain : Settings → List Span → ℕ → Bool
read_in_vain s spans number = is_read s number && eqb (span_at spans number).end 0
