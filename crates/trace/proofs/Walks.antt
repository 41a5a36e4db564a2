-- Where a walk stands after some records.
use Rattle.std.proofs.Common.{◌≡◌, ℕ, zero, suc, ◌+◌, ◌*◌, ◌%◌, ◌^◌, ◌<◌, ◌≤◌, List, length, refl, add-one, arith, length-append}
use Rattle.words.specs.declared.settings.Settings.{Settings}
use Rattle.words.specs.declared.remembered.Remembered.{Remembered}
use Rattle.memory.specs.State.{state_of}
use Rattle.message.specs.Heard.{heard_bytes}
use Rattle.message.specs.Message.{answer_of}
use Rattle.trace.specs.declared.walk.Walked.{Walked}
use Rattle.text.specs.Text.{Put, PutFirst}
use Rattle.text.specs.Line.{line_of}
use Rattle.trace.specs.Walk.{Walk, Leaves, record_at, next_number, walk_record, walk_to, walk_start, walked_of}
use Rattle.text.proofs.Runs.{put_none, put_then, put_first}
use Rattle.text.proofs.Lines.{line_most}

pub walk_more :
    (s : Settings) (trace : List ℕ) (w : Walk) (n : ℕ) →
    walk_to s trace w (n + 1) ≡ walk_record s (record_at trace n) (walk_to s trace w n)
unfolding walk_to
walk_more s trace w n = rw add-one

-- the text grows by less than 80 bytes with each record of 80 bytes
pub text_most :
    (s : Settings) (trace : List ℕ) (w : Walk) (n : ℕ) → length (walk_to s trace w n).text ≤ length w.text + 72 * n
unfolding walk_to walk_record
text_most s trace w zero = omega arith
text_most s trace w (suc n) =
    rw length-append
    (omega (
      arith,
      text_most s trace w n,
      line_most (next_number (walk_to s trace w n).number) (answer_of s (heard_bytes (record_at trace n)) (walk_to s trace w n).state),
    ))

-- the walk so far, its text from the front of the lent buffer `room`
pub record Stands (w : Walk) (room ram reply out : List ℕ) (walked : Walked) : Type 0 where
  pub state : state_of ram reply walked.remembered ≡ w.state
  pub text : Put room 0 w.text out walked.used
  pub number : walked.number ≡ w.number

record_stands :
    (s : Settings) (bytes : List ℕ) (w : Walk) (room ram reply out ram₁ reply₁ out₁ : List ℕ) (walked walked₁ : Walked) →
    Stands w room ram reply out walked →
    Leaves (walk_record s bytes (walk_start ram reply walked.remembered walked.number)) out walked.used ram₁ reply₁ out₁ walked₁ →
    Stands (walk_record s bytes w) room ram₁ reply₁ out₁ walked₁
unfolding walk_record
record_stands s bytes w room ram reply out ram₁ reply₁ out₁ walked walked₁ a b =
    let line : List ℕ = line_of (next_number w.number) (answer_of s (heard_bytes bytes) w.state) in
    let same : line_of (next_number walked.number) (answer_of s (heard_bytes bytes) (state_of ram reply walked.remembered)) ≡ line =
    rw (a.state, a.number) in
    record {
      state = rw (← a.state) b.state;
      text = rw (← same) (put_then a.text b.line);
      number = rw (← a.number) b.number;
    }

pub stands_none :
    (s : Settings) (trace ram reply room : List ℕ) (before : Remembered) (number : ℕ) →
    length room < 2 ^ 64 →
    Stands (walk_to s trace (walk_start ram reply before number) 0) room ram reply room
    (record { remembered = before; number = number; used = 0 })
unfolding walk_to
stands_none s trace ram reply room before number h =
    record { state = refl; text = put_none h (omega arith); number = refl }

-- one record more, whatever bytes were handed on, where they are that record
pub stands_more :
    (s : Settings) (trace : List ℕ) (w : Walk) (n : ℕ) {bytes room ram reply out ram₁ reply₁ out₁ : List ℕ} {walked walked₁ : Walked} →
    Stands (walk_to s trace w n) room ram reply out walked →
    Leaves (walk_record s bytes (walk_start ram reply walked.remembered walked.number)) out walked.used ram₁ reply₁ out₁ walked₁ →
    bytes ≡ record_at trace n →
    Stands (walk_to s trace w (n + 1)) room ram₁ reply₁ out₁ walked₁
stands_more s trace w n a b e = rw (walk_more, ← e) (record_stands _ _ _ _ _ _ _ _ _ _ _ _ a b)

-- a trace that fits a slice has a text that can be counted
pub stands_text :
    (s : Settings) (trace : List ℕ) (w : Walk) (n : ℕ) {room ram reply out : List ℕ} {walked : Walked} →
    length w.text + 72 * n < 2 ^ 64 →
    Stands (walk_to s trace w n) room ram reply out walked →
    PutFirst room (walk_to s trace w n).text out walked.used
stands_text s trace w n h a = put_first a.text (omega (arith, text_most s trace w n))

-- what the function hands back is the walk's
pub stands_back :
    {w : Walk} {room ram reply out : List ℕ} {walked : Walked} →
    Stands w room ram reply out walked →
    PutFirst room w.text out walked.used →
    walked ≡ walked_of w
stands_back a t = λ i. record { remembered = (a.state i).remembered; number = a.number i; used = t.length i }

-- the number counts records, refused ones too
pub walk_number :
    (s : Settings) (trace : List ℕ) (w : Walk) (n : ℕ) →
    w.number < 2 ^ 64 →
    (walk_to s trace w n).number ≡ (w.number + n) % 2 ^ 64
unfolding walk_to walk_record
walk_number s trace w zero h = omega arith
walk_number s trace w (suc n) h = omega (arith, walk_number s trace w n h)
