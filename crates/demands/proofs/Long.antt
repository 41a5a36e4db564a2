-- Long records: what each entry point answers, and what an accepted message from one leaves.
use Prim.Native.Nat.{ℕ, ◌+◌}
use native.Mathlib.Omega.{arith}
use mathlib.Core.Path.{◌≡◌, refl, sym, ap, ◌∙◌}
use mathlib.Core.Bool.{true}
use mathlib.Core.List.{List}
use lib.ListN.{length, get_or}
use lib.Seq.{get_or-take}
use Rattle.cells.specs.Stack.{stack_pointer}
use Rattle.writes.specs.Writes.{descriptor_of}
use Rattle.layout.specs.declared.reader.Reading.{Reading}
use Rattle.layout.specs.declared.writer.Written.{Written}
use Rattle.layout.specs.Layout.{word_at, value_in, reader_refusal, not_read}
use Rattle.layout_long.specs.declared.value.LongRecord.{LongRecord}
use Rattle.layout_long.specs.declared.reader.LongReading.{LongReading}
use Rattle.layout_long.specs.declared.writer.LongWritten.{LongWritten}
use Rattle.layout_long.specs.Long.{old_part, end_zero, long_in, long_tests, long_refusal, read_old, not_read_long, read_long}
use Rattle.layout_long.specs.WritingLong.{with_zeros, long_bytes, long_writer_tests, long_writer_refusal, not_long, write_long}
use Rattle.layout_long.specs.RoundTrip.{long_read_back, long_write_back}
use Rattle.layout_long.specs.Conversion.{longer_of, shorter_tests, shorter_refusal, not_short, shorter_of}
use Rattle.layout_long.proofs.Cases.{long_number, long_taken, long_written}
use Rattle.layout_long.proofs.Undone.{longer_gives, shorter_allows, there_and_back, back_and_there}
use Rattle.message.specs.Heard.{Heard, heard_bytes, heard_long}
use Rattle.message.specs.Tests.{record_tests}
use Rattle.message.specs.Message.{answer_of, step}
use Rattle.message.proofs.FromLong.{heard_as_old}
use Rattle.demands.specs.Calls.{Message}
use Rattle.demands.specs.Meets.{Worked}
use Rattle.demands.specs.First.{AnsweredOnly}
use Rattle.demands.proofs.Answered.{by_number}

-- ---- demand 1

pub read_old_answered :
    (bytes : List ℕ) (back : Reading) → back ≡ read_old bytes →
    AnsweredOnly (long_tests bytes) back.number back not_read
unfolding read_old long_refusal not_read
read_old_answered bytes back e =
    by_number (long_tests bytes) (λ r. r.number) back (record { number = 0; value = value_in (old_part bytes) }) not_read
    refl refl refl (λ n. refl) e

pub long_read_back_answered :
    (v : LongRecord) (back : LongReading) → back ≡ long_read_back v →
    AnsweredOnly (long_writer_tests v) back.number back not_read_long
unfolding long_read_back long_writer_refusal not_read_long
long_read_back_answered v back e =
    by_number (long_writer_tests v) (λ r. r.number) back (record { number = 0; value = v }) not_read_long
    refl refl refl (λ n. refl) e

pub long_write_back_answered :
    (bytes : List ℕ) (back : LongWritten) → back ≡ long_write_back bytes →
    AnsweredOnly (long_tests bytes) back.number back not_long
unfolding long_write_back long_refusal not_long
long_write_back_answered bytes back e =
    by_number (long_tests bytes) (λ w. w.number) back (record { number = 0; bytes = bytes }) not_long
    refl refl refl (λ n. refl) e

pub read_long_answered :
    (bytes : List ℕ) (back : LongReading) → back ≡ read_long bytes →
    AnsweredOnly (long_tests bytes) back.number back not_read_long
unfolding read_long long_refusal not_read_long
read_long_answered bytes back e =
    by_number (long_tests bytes) (λ r. r.number) back (record { number = 0; value = long_in bytes }) not_read_long
    refl refl refl (λ n. refl) e

pub write_long_answered :
    (v : LongRecord) (back : LongWritten) → back ≡ write_long v →
    AnsweredOnly (long_writer_tests v) back.number back not_long
unfolding write_long long_writer_refusal not_long
write_long_answered v back e =
    by_number (long_writer_tests v) (λ w. w.number) back (record { number = 0; bytes = long_bytes v }) not_long
    refl refl refl (λ n. refl) e

pub longer_answered :
    (bytes : List ℕ) (back : LongWritten) → back ≡ longer_of bytes →
    AnsweredOnly (record_tests (heard_bytes bytes)) back.number back not_long
unfolding longer_of reader_refusal not_long
longer_answered bytes back e =
    by_number (record_tests (heard_bytes bytes)) (λ w. w.number) back (record { number = 0; bytes = with_zeros bytes })
    not_long
    refl refl refl (λ n. refl) e

pub shorter_answered :
    (bytes : List ℕ) (back : Written) → back ≡ shorter_of bytes →
    AnsweredOnly (shorter_tests bytes) back.number back not_short
unfolding shorter_of shorter_refusal not_short
shorter_answered bytes back e =
    by_number (shorter_tests bytes) (λ w. w.number) back (record { number = 0; bytes = old_part bytes }) not_short
    refl refl refl (λ n. refl) e

-- ---- demand 2

pub gives_long : (bytes : List ℕ) (r : LongReading) → r ≡ read_long bytes → r.number ≡ 0 → r.value ≡ long_in bytes
gives_long bytes r e z =
    let none = sym (long_number bytes) ∙ ap (λ (x : LongReading). x.number) (sym e) ∙ z in
    ap (λ (x : LongReading). x.value) (e ∙ (long_taken bytes none).gives)

pub gives_long_bytes : (v : LongRecord) (w : LongWritten) → w ≡ write_long v → w.number ≡ 0 → w.bytes ≡ long_bytes v
gives_long_bytes v w e z =
    ap (λ (x : LongWritten). x.bytes) e ∙ long_written v (ap (λ (x : LongWritten). x.number) (sym e) ∙ z)

pub gives_longer : (s : List ℕ) (w : LongWritten) → w ≡ longer_of s → w.number ≡ 0 → w.bytes ≡ with_zeros s
gives_longer s w e z =
    ap (λ (x : LongWritten). x.bytes) e ∙ longer_gives s (ap (λ (x : LongWritten). x.number) (sym e) ∙ z)

pub gives_shorter : (s : List ℕ) (w : Written) → w ≡ shorter_of s → w.number ≡ 0 → w.bytes ≡ old_part s
gives_shorter s w e z =
    ap (λ (x : Written). x.bytes) (e ∙ (shorter_allows s (ap (λ (x : Written). x.number) (sym e) ∙ z)).gives)

pub goes_back :
    (s t : List ℕ) (w : LongWritten) (v : Written) → w ≡ longer_of s → v ≡ shorter_of t → w.number ≡ 0 → t ≡ w.bytes →
    v ≡ record { number = 0; bytes = s }
goes_back s t w v e f z same =
    f
    ∙ ap shorter_of (same ∙ ap (λ (x : LongWritten). x.bytes) e)
    ∙ there_and_back s (ap (λ (x : LongWritten). x.number) (sym e) ∙ z)

pub goes_on :
    (s t : List ℕ) (w : Written) (v : LongWritten) → w ≡ shorter_of s → v ≡ longer_of t → w.number ≡ 0 → t ≡ w.bytes →
    v ≡ record { number = 0; bytes = s }
goes_on s t w v e f z same =
    f
    ∙ ap longer_of (same ∙ ap (λ (x : Written). x.bytes) e)
    ∙ back_and_there s (ap (λ (x : Written). x.number) (sym e) ∙ z)

-- two messages that heard the same in the same state
pub same_message :
    (m n : Message) →
    m.answer ≡ answer_of m.settings m.heard m.before →
    m.after ≡ step m.settings m.heard m.before →
    n.answer ≡ answer_of n.settings n.heard n.before →
    n.after ≡ step n.settings n.heard n.before →
    m.settings ≡ n.settings →
    m.heard ≡ n.heard →
    m.before ≡ n.before →
    (m.answer ≡ n.answer) × (m.after ≡ n.after)
same_message m n a b c d s h x = (
  a ∙ (λ i. answer_of (s i) (h i) (x i)) ∙ sym c,
  b ∙ (λ i. step (s i) (h i) (x i)) ∙ sym d,
)

pub same_heard :
    (bytes old : List ℕ) → length bytes ≡ 96 → end_zero bytes ≡ true → old ≡ old_part bytes →
    heard_long bytes ≡ heard_bytes old
same_heard bytes old h e same = heard_as_old bytes h e ∙ ap heard_bytes (sym same)

-- the tag of the old part is bytes 4-5
old_tag : (bytes : List ℕ) → (value_in (old_part bytes)).tag ≡ word_at bytes 4
unfolding value_in
old_tag bytes = rw (get_or-take 80 bytes 4 0 (omega arith), get_or-take 80 bytes 5 0 (omega arith))

pub lower_half :
    (m : Message) (bytes : List ℕ) → m.heard ≡ heard_long bytes → Worked m →
    get_or m.after.ram (stack_pointer m.before.ram m.settings + 1) 0 ≡ word_at bytes 4
unfolding descriptor_of
lower_half m bytes e w =
    w.descriptor 1 (omega arith) ∙ ap (λ (h : Heard). h.value.tag) e ∙ old_tag bytes
