-- Demand 1: "Any RAM, settings and message record may be given. Each entry point ends with an answer or a numbered
-- refusal in the stated order. A refusal returns its number with everything else zero, save a cell number the area
-- check names, and changes no word of RAM, reply or remembered state."
-- The functions for callers in C and Rust stand in `Exported.antt`, the bus controller's in `Control.antt`.
-- To believe: what `Answered` and `Meets` name; the tests of each entry point (`tests_for`, `record_tests`, `writer_tests`,
-- `ground_tests`, `area_tests`, `cell_tests`, `given_tests`, `who_tests`, `fill_tests`, `entry_tests`; of long records
-- `long_tests`, `long_writer_tests`, `shorter_tests`); `LowestUnsound`; what each gives back of a refusal (`not_read`,
-- `not_written`, `not_read_long`, `not_long`, `not_short`, `cell_answer`, `area_answer`, `no_cell`, `no_stack`, and `values_of` for
-- the number of an answer to who put a word there).
use Rattle.std.specs.Prelude.{ℕ, ◌+◌, ◌≤◌, ◌<◌, ◌≡◌, true, false, not, List, [], ◌∷◌, length, take, drop}
use Rattle.words.specs.declared.settings.Settings.{Settings}
use Rattle.words.specs.Number.{record_layout, unsound_cell}
use Rattle.words.specs.Refusal.{Test, ◌when◌}
use Rattle.records.specs.declared.value.Record.{Record}
use Rattle.records.specs.Value.{keeps_layout}
use Rattle.layout.specs.declared.reader.Reading.{Reading}
use Rattle.layout.specs.declared.writer.Written.{Written}
use Rattle.layout.specs.Layout.{not_read}
use Rattle.layout.specs.Writing.{zero_bytes}
use Rattle.layout_long.specs.Long.{long_tests, not_read_long}
use Rattle.layout_long.specs.WritingLong.{long_writer_tests, not_long}
use Rattle.layout_long.specs.Conversion.{shorter_tests, not_short}
use Rattle.area.specs.declared.area.Checked.{Checked}
use Rattle.area.specs.Area.{LowestUnsound, ground_tests, area_tests}
use Rattle.label.specs.Label.{cell_tests, cell_answer, area_answer}
use Rattle.soundness.specs.Described.{given_tests, no_cell, no_stack}
use Rattle.message.specs.Heard.{heard_bytes}
use Rattle.message.specs.Tests.{record_tests}
use Rattle.who_origin.specs.declared.origin.Who.{Who}
use Rattle.who_origin.specs.declared.origin.Who.TheVariants.{Refused}
use Rattle.who.specs.declared.standing.Standing.{Standing}
use Rattle.who.specs.Tests.{who_tests}
use Rattle.who.specs.Values.{values_of}
use Rattle.who_tables.specs.Tests.{fill_tests, entry_tests}
use Rattle.trace_view.specs.declared.view.Taken.{Taken}
use Rattle.c_words.specs.Over.{record_bytes}
use Rattle.demands.specs.Entry.{Entry}
use Rattle.demands.specs.Functions as f
use Rattle.demands.specs.Calls.{bytes_message, value_message, long_message, bytes_performed, value_performed, long_performed, walked}
use Rattle.demands.specs.Answered.{Answered}
use Rattle.demands.specs.Meets.{MessageAnswered}
use Rattle.demands.specs.Walks.{Walks}

-- a function that is lent nothing to be changed: what is lent to be read keeps its contents
abbrev pub AnsweredOnly : List Test → {Back : Type 0} → ℕ → Back → (ℕ → Back) → Type 0
AnsweredOnly tests number back refusal = Answered tests {Lent = Unit {0}} number back refusal tt tt

-- one that answers with the number alone
abbrev pub NumberAnswered : List Test → ℕ → Type 0
NumberAnswered tests number = AnsweredOnly tests number number (λ n. n)

pub record CheckAnswered (ram : List ℕ) (s : Settings) (back : Checked) : Type 0 where
  pub answered : AnsweredOnly (area_tests ram s) back.number back (λ n. record { number = n; cell = back.cell })
  -- "save a cell number the area check names": with 9 the lowest unsound cell, and with every other number 0
  pub named : back.number ≡ unsound_cell → LowestUnsound ram s back.cell
  pub unnamed : (back.number ≡ unsound_cell → ⊥) → back.cell ≡ 0

-- the reader tests what a message from bytes tests of its record
abbrev pub ReadAnswered : List ℕ → Reading → Type 0
ReadAnswered bytes back = AnsweredOnly (record_tests (heard_bytes bytes)) back.number back not_read

-- "5: record breaks its layout (also the writer's answer)"
abbrev pub writer_tests : Record → List Test
writer_tests v = record_layout when not (keeps_layout v) ∷ []

abbrev pub not_written : ℕ → Written
not_written n = record { number = n; bytes = zero_bytes }

-- "Who put this word here" (document 02, request 10): the answer's number, and with a refusal no more
abbrev pub AskAnswered : Settings → ℕ → List ℕ → Who → List ℕ → Type 0
AskAnswered s a ram back after =
    Answered (who_tests (length ram) s a) (values_of back).number back (λ n. Refused n) ram after

-- a part of a trace goes on from an answer
pub record GoOnAnswered (s : Settings) (a : ℕ) (ram : List ℕ) (at back : Standing) (after : List ℕ) : Type 0 where
  -- "Given a starting image, fixed settings, a trace and an address" is one question, in however many parts its trace
  -- comes: what refused it before is handed back as it is
  pub refused_before : ((values_of at.who).number ≡ 0 → ⊥) → (back ≡ at) × (after ≡ ram)
  -- only where nothing did the part is tested; where it is refused, all beside the refusal is as it was
  pub answered :
      (values_of at.who).number ≡ 0 →
      Answered (who_tests (length ram) s a) (values_of back.who).number back
      (λ n. record { remembered = at.remembered; number = at.number; who = Refused n }) ram after

-- the record at a place of a trace, for a view
pub record TakeAnswered (trace : List ℕ) (at : ℕ) (back : Taken) : Type 0 where
  pub some :
      at + record_bytes ≤ length trace →
      (back.found ≡ true) × ((back.at ≡ at + record_bytes) × ReadAnswered (take record_bytes (drop at trace)) back.reading)
  -- "with fewer than 80 bytes after its place it gives none and the place stays"
  pub none : length trace < at + record_bytes → back ≡ record { found = false; at = at; reading = not_read 0 }

pub record Demand : Type 2 where
  -- a message from bytes, from a value or from a long record, and for who needs the plan
  pub message_from_bytes : Entry f.message_from_bytes (λ c. MessageAnswered (bytes_message c))
  pub message_from_value : Entry f.message_from_value (λ c. MessageAnswered (value_message c))
  pub message_from_long : Entry f.message_from_long (λ c. MessageAnswered (long_message c))
  pub perform_bytes : Entry f.perform_bytes (λ c. MessageAnswered (bytes_performed c))
  pub perform_value_call : Entry f.perform_value_call (λ c. MessageAnswered (value_performed c))
  pub perform_long_call : Entry f.perform_long_call (λ c. MessageAnswered (long_performed c))
  -- the reader and the writer, and the functions that write and read, and read and write
  pub read : Entry f.read (λ c. ReadAnswered c.given.0.now c.back)
  pub write : Entry f.write (λ c. AnsweredOnly (writer_tests c.given.0) c.back.number c.back not_written)
  pub read_written :
      Entry f.read_written (λ c. AnsweredOnly (writer_tests c.given.0) c.back.number c.back not_read)
  pub write_read :
      Entry f.write_read
      (λ c. AnsweredOnly (record_tests (heard_bytes c.given.0.now)) c.back.number c.back not_written)
  -- the same of long records: "4 for a wrong length, 5 for a broken layout"
  pub read_old_call :
      Entry f.read_old_call (λ c. AnsweredOnly (long_tests c.given.0.now) c.back.number c.back not_read)
  pub read_long_call :
      Entry f.read_long_call (λ c. AnsweredOnly (long_tests c.given.0.now) c.back.number c.back not_read_long)
  pub write_long_call :
      Entry f.write_long_call (λ c. AnsweredOnly (long_writer_tests c.given.0) c.back.number c.back not_long)
  pub read_written_long :
      Entry f.read_written_long
      (λ c. AnsweredOnly (long_writer_tests c.given.0) c.back.number c.back not_read_long)
  pub write_read_long :
      Entry f.write_read_long (λ c. AnsweredOnly (long_tests c.given.0.now) c.back.number c.back not_long)
  -- old records to new, with the tests of an old record; and back, "then 10 when going back would lose"
  pub longer :
      Entry f.longer
      (λ c. AnsweredOnly (record_tests (heard_bytes c.given.0.now)) c.back.number c.back not_long)
  pub shorter :
      Entry f.shorter (λ c. AnsweredOnly (shorter_tests c.given.0.now) c.back.number c.back not_short)
  -- the whole-area check
  pub check_area_call : Entry f.check_area_call (λ c. CheckAnswered c.given.0.now c.given.1.0 c.back)
  -- the label of one cell, the same by the numbers alone, and of the whole area: a refusal lists nothing, and leaves the
  -- lent words as they were
  pub label_cell :
      Entry f.label_cell
      (λ c.
      let (ram, (s, (cell, none))) = c.given in
      AnsweredOnly (cell_tests ram.now s cell) c.back.number c.back (λ n. cell_answer n []))
  pub find_sharers :
      Entry f.find_sharers
      (λ c.
      let (ram, (s, (cell, (numbers, none)))) = c.given in
      Answered (cell_tests ram.now s cell) c.back.number c.back (λ n. record { number = n; count = 0 })
      numbers.now
      c.left.1.1.1.0)
  pub label_area :
      Entry f.label_area
      (λ c.
      let (ram, (s, (pairs, none))) = c.given in
      Answered (ground_tests ram.now s) c.back.number c.back (λ n. area_answer n [] 0) pairs.now
      c.left.1.1.0)
  -- what a cell and the stack are like
  pub describe_cell :
      Entry f.describe_cell
      (λ c. AnsweredOnly (given_tests (length c.given.0.now) c.given.1.0) c.back.number c.back no_cell)
  pub describe_stack :
      Entry f.describe_stack
      (λ c. AnsweredOnly (given_tests (length c.given.0.now) c.given.1.0) c.back.number c.back no_stack)
  -- the tests alone, for those who do the rest: of RAM and settings, of a question about an address, and of tables
  pub ground_refusal_call :
      Entry f.ground_refusal_call (λ c. NumberAnswered (ground_tests c.given.0.now c.given.1.0) c.back)
  pub who_refusal_call :
      Entry f.who_refusal_call
      (λ c. let (words, (s, (a, none))) = c.given in NumberAnswered (who_tests words s a) c.back)
  pub fill_refusal_call :
      Entry f.fill_refusal_call
      (λ c.
      let (words, (numbers, (marks, (s, none)))) = c.given in
      NumberAnswered (fill_tests words numbers marks s) c.back)
  -- each whole record of a trace is such a message: one list of messages, of which demands 1 and 2 hold
  pub walk : Entry f.walk_trace (λ c. Walks (walked c))
  -- and a view's record is read as the reader reads it
  pub view : Entry f.take_at (λ c. TakeAnswered c.given.0.now c.given.1.0 c.back)
  -- "Who put this word here", for one address: of a whole trace, and of a part of one, after any answer
  pub ask :
      Entry f.ask
      (λ c.
      let (ram, (s, (a, (trace, none)))) = c.given in
      AskAnswered s a ram.now c.back c.left.0)
  pub go_on :
      Entry f.go_on
      (λ c.
      let (ram, (s, (a, (at, (trace, none))))) = c.given in
      GoOnAnswered s a ram.now at c.back c.left.0)
  -- and for every address at once: a refusal leaves RAM and the tables, and what is remembered, as they were
  pub fill :
      Entry f.fill_tables
      (λ c.
      let (ram, (numbers, (marks, (s, (at, (trace, none)))))) = c.given in
      Answered (fill_tests (length ram.now) (length numbers.now) (length marks.now) s) c.back.number c.back
      (λ n. record { number = n; at = at })
      (ram.now ∷ numbers.now ∷ marks.now ∷ [])
      (c.left.0 ∷ c.left.1.0 ∷ c.left.1.1.0 ∷ []))
  pub entry_at_call :
      Entry f.entry_at_call
      (λ c.
      let (numbers, (marks, (a, none))) = c.given in
      AnsweredOnly (entry_tests numbers.now marks.now a) (values_of c.back).number c.back (λ n. Refused n))
