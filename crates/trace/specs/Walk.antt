-- Walking a trace: message by message over its whole records. "Walking a trace hands on the next 80 bytes from the
-- middle of what was read".
use Rattle.std.specs.Prelude.{◌≡◌, ℕ, zero, suc, ◌+◌, ◌*◌, ◌/◌, ◌%◌, ◌^◌, List, [], ◌++◌, length, take, drop}
use Rattle.words.specs.Sizes.{record_bytes}
use Rattle.words.specs.declared.settings.Settings.{Settings}
use Rattle.words.specs.declared.remembered.Remembered.{Remembered}
use Rattle.memory.specs.State.{State, state_of}
use Rattle.message.specs.Heard.{heard_bytes}
use Rattle.message.specs.Message.{answer_of, step}
use Rattle.trace.specs.declared.walk.Walked.{Walked}
use Rattle.text.specs.Text.{Put}
use Rattle.text.specs.Line.{line_of}

-- record n of a trace, counted from 0
abbrev pub record_at : List ℕ → ℕ → List ℕ
record_at trace n = take record_bytes (drop (record_bytes * n) trace)

abbrev pub whole_records : List ℕ → ℕ
whole_records trace = length trace / record_bytes

-- what stands after some records: the terminal, the number of the last record, the text so far
pub record Walk : Type 0 where
  pub state : State
  pub number : ℕ
  pub text : List ℕ

-- records are counted in 64 bits
abbrev pub next_number : ℕ → ℕ
next_number n = (n + 1) % 2 ^ 64

-- one record more
unfoldable pub walk_record : Settings → List ℕ → Walk → Walk
walk_record s bytes w =
    record {
      state = step s (heard_bytes bytes) w.state;
      number = next_number w.number;
      text = w.text ++ line_of (next_number w.number) (answer_of s (heard_bytes bytes) w.state);
    }

-- the first n records
unfoldable pub walk_to : Settings → List ℕ → Walk → ℕ → Walk
walk_to s trace w zero = w
walk_to s trace w (suc n) = walk_record s (record_at trace n) (walk_to s trace w n)

-- all whole records, from RAM, reply, remembered state and record number
abbrev pub walk_start : List ℕ → List ℕ → Remembered → ℕ → Walk
walk_start ram reply before number =
    record { state = state_of ram reply before; number = number; text = [] }

unfoldable pub walk_all : Settings → List ℕ → Walk → Walk
walk_all s trace w = walk_to s trace w (whole_records trace)

-- the same walk with its text written out: the next text begins anew
abbrev pub anew : Walk → Walk
anew w = record { state = w.state; number = w.number; text = [] }

-- what the function hands back by value
abbrev pub walked_of : Walk → Walked
walked_of w = record { remembered = w.state.remembered; number = w.number; used = length w.text }

-- one record's walk, with its line at a place of the lent buffer `room`: every lent word afterwards, and what is handed
-- back
pub record Leaves (w : Walk) (room : List ℕ) (at : ℕ) (ram reply out : List ℕ) (walked : Walked) : Type 0 where
  pub state : state_of ram reply walked.remembered ≡ w.state
  pub line : Put room at w.text out walked.used
  pub number : walked.number ≡ w.number
