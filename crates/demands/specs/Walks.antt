-- Messages one after the other, and a walk of a trace as such a chain.
-- To believe: `record_at` and `whole_records`, the records of a trace; `line_of`, the line of an answer.
use Rattle.std.specs.Prelude.{ℕ, zero, suc, ◌+◌, ◌%◌, ◌^◌, ◌<◌, ◌≡◌, List, [], ◌∷◌, ◌++◌, map, length}
use Rattle.std.proofs.lemmas.List.Edits.{sets}
use Rattle.words.specs.declared.settings.Settings.{Settings}
use Rattle.memory.specs.State.{State}
use Rattle.message.specs.declared.answer.Answer.{Answer}
use Rattle.message.specs.Heard.{Heard, heard_bytes}
use Rattle.text.specs.Line.{line_of}
use Rattle.trace.specs.Walk.{record_at, whole_records, next_number}
use Rattle.demands.specs.Calls.{Message, Walked}
use Rattle.demands.specs.Meets.{Meets}

-- from x to y, "with fixed settings and no host write between": each message begins with what the one before left
abbrev pub Chain : Settings → State → List Message → State → Type 0
Chain s x [] y = y ≡ x
Chain s x (m ∷ ms) y = (m.settings ≡ s) × ((m.before ≡ x) × Chain s m.after ms y)

-- the same for a caller who clears the reply buffer between two messages, or lends another: each begins with the RAM and
-- the remembered state that the one before left
abbrev pub Handed : Settings → State → List Message → State → Type 0
Handed s x [] y = (y.ram ≡ x.ram) × (y.remembered ≡ x.remembered)
Handed s x (m ∷ ms) y =
    (m.settings ≡ s) × ((m.before.ram ≡ x.ram) × ((m.before.remembered ≡ x.remembered) × Handed s m.after ms y))

abbrev pub Each : (Message → Type 0) → List Message → Type 0
Each Says [] = Unit {0}
Each Says (m ∷ ms) = Says m × Each Says ms

abbrev pub heard_of : List Message → List Heard
heard_of ms = map (λ m. m.heard) ms

-- the first n records of a trace, as they are heard
unfoldable pub records_heard : List ℕ → ℕ → List Heard
records_heard trace zero = []
records_heard trace (suc n) = records_heard trace n ++ (heard_bytes (record_at trace n) ∷ [])

-- the lines of answers, after record `number`
unfoldable pub lines_after : ℕ → List Answer → List ℕ
lines_after number [] = []
lines_after number (a ∷ rest) = line_of (next_number number) a ++ lines_after (next_number number) rest

-- a walk: one list of messages, one for each whole record, of which demands 1 and 2 hold, and whose lines stand in the
-- lent buffer
pub record Walks (w : Walked) : Type 0 where
  pub messages : List Message
  -- "hands on the next 80 bytes from the middle of what was read"
  pub heard : heard_of messages ≡ records_heard w.trace (whole_records w.trace)
  pub chain : Chain w.settings w.before messages w.after
  pub each : Each Meets messages
  pub lines : w.text ≡ sets w.room 0 (lines_after w.from (map (λ m. m.answer) messages))
  pub used : w.used ≡ length (lines_after w.from (map (λ m. m.answer) messages))
  -- "the end line counts whole records, refused ones too", in 64 bits
  pub ended : w.from < 2 ^ 64 → w.number ≡ (w.from + length messages) % 2 ^ 64
