-- The trace program's whole output for a whole input.
use Rattle.std.specs.Prelude.{◌≡◌, ℕ, ◌%◌, cond, List, [], ◌∷◌, ◌++◌, length, take, drop, replicate, nat_lt}
use Rattle.words.specs.Sizes.{record_bytes}
use Rattle.words.specs.Settings.{program_settings}
use Rattle.words.specs.Remembered.{nothing_remembered}
use Rattle.trace_ends.specs.Image.{image_ram, image_line}
use Rattle.trace_ends.specs.LastLines.{last_lines}
use Rattle.trace.specs.Walk.{Walk, walk_start, walk_all, anew}

-- from a walk on to the end of the trace: a line for each whole record, and the last lines
unfoldable pub text_to_end : List ℕ → Walk → List ℕ
text_to_end trace w =
    (walk_all program_settings trace w).text ++ last_lines (length trace % record_bytes) (walk_all program_settings trace w).number

unfoldable pub trace_text : List ℕ → List ℕ → List ℕ
trace_text ram trace = text_to_end trace (walk_start ram (replicate 33 0) nothing_remembered 0)

-- "An image under 8,192 bytes prints "image" and its length, and nothing else."
unfoldable pub program_output : List ℕ → List ℕ
program_output input =
    cond (nat_lt (length input) 8192) (image_line (length input)) (trace_text (image_ram (take 8192 input)) (drop 8192 input))

-- what a program writes that refills a buffer, a whole number of records each time, until the input ends with a shorter
-- rest: each refill's lines, and after the rest the last lines
unfoldable pub written : List (List ℕ) → List ℕ → Walk → List ℕ
written [] rest w = text_to_end rest (anew w)
written (full ∷ fulls) rest w =
    (walk_all program_settings full (anew w)).text ++ written fulls rest (walk_all program_settings full (anew w))

-- the refills and the rest, as they stood in the input
unfoldable pub refilled : List (List ℕ) → List ℕ → List ℕ
refilled [] rest = rest
refilled (full ∷ fulls) rest = full ++ refilled fulls rest

-- each refill is a whole number of records
unfoldable pub WholeRefills : List (List ℕ) → Type 0
WholeRefills [] = Unit
WholeRefills (full ∷ fulls) = (length full % record_bytes ≡ 0) × WholeRefills fulls
