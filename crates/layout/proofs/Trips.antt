-- The two round-trip functions, over plain variables: each way out gives what the definition says.
use Prim.Native.Nat.{ℕ}
use mathlib.Core.Path.{◌≡◌, sym}
use mathlib.Core.Logic.{⊎_elim}
use mathlib.Core.List.{List}
use lib.Dec.{eqb}
use borrow.Author.Tests.{eqb-true, ne_eqb}
use Rattle.records.specs.declared.value.Record.{Record}
use Rattle.layout.specs.declared.reader.Reading.{Reading}
use Rattle.layout.specs.declared.writer.Written.{Written}
use Rattle.records.specs.Value.{zero_value, keeps_layout, Typed}
use Rattle.layout.specs.Layout.{Bytes, reader_refusal, read_record, not_read}
use Rattle.layout.specs.Writing.{zero_bytes, write_record}
use Rattle.layout.specs.RoundTrip.{read_back, write_back}
use Rattle.words.proofs.Basics.{yes_or_no}
use Rattle.layout.proofs.Cases.{write_layout, write_good}
use Rattle.layout.proofs.Inverse.{read_after_write, write_after_read, reader_takes, writer_takes}

-- the number that the reader answers is its refusal
pub read_number : (s : List ℕ) → (read_record s).number ≡ reader_refusal s
unfolding read_record not_read
read_number s =
    ⊎_elim
    (λ b. rw b (sym (eqb-true (reader_refusal s) 0 b)))
    (λ b. rw b)
    (yes_or_no (eqb (reader_refusal s) 0))

pub read_written_taken :
    (v : Record) (w : Written) (r : Reading) → Typed v → w ≡ write_record v → w.number ≡ 0 → r ≡ read_record w.bytes →
    r ≡ read_back v
unfolding read_back
read_written_taken v w r t e z f =
    let k = writer_takes v (rw e at z) in
    let b = write_good v k in
    simp k (cc (read_after_write v t k))

pub read_written_refused :
    (v : Record) (w : Written) (z : Record) → w ≡ write_record v → (w.number ≡ 0 → ⊥) → z ≡ zero_value →
    record { number = w.number; value = z } ≡ read_back v
unfolding read_back not_read
read_written_refused v w z e n f =
    ⊎_elim
    (λ k. absurd (n (cc (write_good v k))))
    (λ k. rw k (cc (write_layout v k)))
    (yes_or_no (keeps_layout v))

pub write_read_taken :
    (s : List ℕ) (r : Reading) (w : Written) → Bytes s → r ≡ read_record s → r.number ≡ 0 → w ≡ write_record r.value →
    w ≡ write_back s
unfolding write_back
write_read_taken s r w b e z f =
    let t = reader_takes s (rw e at z) in
    let n : reader_refusal s ≡ 0 = cc (read_number s) in
    rw n (cc (write_after_read s t.long b t.kept, t.gives))

pub write_read_refused :
    (s : List ℕ) (r : Reading) → r ≡ read_record s → (r.number ≡ 0 → ⊥) →
    record { number = r.number; bytes = zero_bytes } ≡ write_back s
unfolding write_back
write_read_refused s r e n =
    let m : r.number ≡ reader_refusal s = cc (read_number s) in
    let no : (reader_refusal s ≡ 0 → ⊥) = λ z. n (cc) in
    simp (ne_eqb (reader_refusal s) 0 no) (cc)
