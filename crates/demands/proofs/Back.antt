-- Reader and writer undo each other, told of what each gave.
use Prim.Native.Nat.{ℕ}
use mathlib.Core.Path.{◌≡◌, sym, ap, ◌∙◌}
use mathlib.Core.Logic.{⊎_elim}
use mathlib.Core.Bool.{true, false, true≢false}
use mathlib.Core.List.{List}
use lib.ListN.{take, drop}
use Rattle.records.specs.declared.value.Record.{Record}
use Rattle.layout.specs.declared.reader.Reading.{Reading}
use Rattle.layout.specs.declared.writer.Written.{Written}
use Rattle.layout.specs.Layout.{Bytes, value_in, read_record}
use Rattle.layout.specs.Writing.{bytes_of, write_record}
use Rattle.records.specs.Value.{Typed}
use Rattle.words.proofs.Basics.{yes_or_no}
use Rattle.trace_view.specs.declared.view.Taken.{Taken}
use Rattle.trace_view.specs.View.{has_record, none_at, taken_at}
use Rattle.layout.proofs.Cases.{write_good}
use Rattle.layout.proofs.Inverse.{read_after_write, write_after_read, reader_takes, writer_takes}

pub gives_value :
    (bytes : List ℕ) (r : Reading) → r ≡ read_record bytes → r.number ≡ 0 → r.value ≡ value_in bytes
gives_value bytes r e z = ap (λ (x : Reading). x.value) (e ∙ (reader_takes bytes (rw (← e) z)).gives)

pub gives_bytes : (v : Record) (w : Written) → w ≡ write_record v → w.number ≡ 0 → w.bytes ≡ bytes_of v
gives_bytes v w e z = ap (λ (x : Written). x.bytes) (e ∙ write_good v (writer_takes v (rw (← e) z)))

-- a view reads what the reader reads
pub takes_value :
    (trace : List ℕ) (at : ℕ) (t : Taken) →
    t ≡ taken_at trace at →
    t.found ≡ true →
    t.reading.number ≡ 0 →
    t.reading.value ≡ value_in (take 80 (drop at trace))
unfolding taken_at none_at
takes_value trace at t e f z =
    ⊎_elim
    (λ (y : has_record trace at ≡ true).
    let same = rw y at e in
    gives_value (take 80 (drop at trace)) t.reading (ap (λ (x : Taken). x.reading) same) z)
    (λ (n : has_record trace at ≡ false).
    let same = rw n at e in
    absurd (true≢false (sym f ∙ ap (λ (x : Taken). x.found) same)))
    (yes_or_no (has_record trace at))

pub back_read :
    (v : Record) (bytes : List ℕ) (w : Written) (r : Reading) →
    w ≡ write_record v →
    r ≡ read_record bytes →
    Typed v →
    w.number ≡ 0 →
    bytes ≡ w.bytes →
    r ≡ record { number = 0; value = v }
back_read v bytes w r e f typed z same =
    f ∙ rw (same, gives_bytes v w e z) (read_after_write v typed (writer_takes v (rw (← e) z)))

pub back_written :
    (bytes : List ℕ) (v : Record) (r : Reading) (w : Written) →
    r ≡ read_record bytes →
    w ≡ write_record v →
    Bytes bytes →
    r.number ≡ 0 →
    v ≡ r.value →
    w ≡ record { number = 0; bytes = bytes }
back_written bytes v r w e f are z same =
    let t = reader_takes bytes (rw (← e) z) in
    let given : v ≡ value_in bytes = same ∙ gives_value bytes r e z in
    f ∙ rw given (write_after_read bytes t.long are t.kept)
