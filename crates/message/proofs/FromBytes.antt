-- Record bytes and their reader: its number is that of the record's tests, and bytes that it takes are heard as the
-- value that it gives, so that what holds of values holds of them.
use Prim.Native.Nat.{ℕ}
use mathlib.Core.Path.{◌≡◌, ap}
use mathlib.Core.Logic.{⊎_elim}
use mathlib.Core.List.{List}
use lib.ListN.{length}
use borrow.Author.Tests.{eq-eqb, ne_eqb}
use Rattle.words.specs.Refusal.{first_of}
use Rattle.words.proofs.Basics.{yes_or_no, eq_or_ne}
use Rattle.layout.specs.declared.reader.Reading.{Reading}
use Rattle.layout.specs.Layout.{breaks_layout, value_in, read_record, not_read}
use Rattle.layout.proofs.Places.{layout_kept}
use Rattle.layout.proofs.Cases.{read_length, read_layout, read_good}
use Rattle.layout.proofs.Inverse.{reader_takes}
use Rattle.message.specs.Heard.{heard_value, heard_bytes}
use Rattle.message.specs.Tests.{record_tests}

pub record_number : (bytes : List ℕ) → first_of (record_tests (heard_bytes bytes)) ≡ (read_record bytes).number
unfolding first_of not_read
record_number bytes =
    ⊎_elim
    (λ long.
    ⊎_elim
    (λ b. rw (read_layout bytes long b, eq-eqb (length bytes) 80 long, b))
    (λ b. rw (read_good bytes long b, eq-eqb (length bytes) 80 long, b))
    (yes_or_no (breaks_layout bytes)))
    (λ other. rw (read_length bytes other, ne_eqb (length bytes) 80 other))
    (eq_or_ne (length bytes) 80)

pub value_read : (bytes : List ℕ) → (read_record bytes).number ≡ 0 → (read_record bytes).value ≡ value_in bytes
value_read bytes taken = ap (λ (r : Reading). r.value) (reader_takes bytes taken).gives

pub heard_as_value :
    (bytes : List ℕ) → (read_record bytes).number ≡ 0 → heard_bytes bytes ≡ heard_value (read_record bytes).value
heard_as_value bytes taken =
    let t = reader_takes bytes taken in
    rw (value_read bytes taken, eq-eqb (length bytes) 80 t.long, t.kept, (layout_kept bytes t.kept).value)
