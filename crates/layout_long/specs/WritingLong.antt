-- What writing a long record gives.
use Rattle.std.specs.Prelude.{ℕ, not, cond, List, [], ◌∷◌, ◌++◌, replicate, eqb}
use Rattle.layout_long.specs.declared.value.LongRecord.{LongRecord}
use Rattle.layout_long.specs.declared.writer.LongWritten.{LongWritten}
use Rattle.words.specs.Number.{record_layout}
use Rattle.words.specs.Refusal.{Test, ◌when◌, first_of}
use Rattle.records.specs.Value.{keeps_layout}
use Rattle.layout.specs.Fields.{Field, put_fields}
use Rattle.layout.specs.Writing.{bytes_of}

abbrev pub zero_long_bytes : List ℕ
zero_long_bytes = replicate 96 0

-- an old record, and sixteen zeros behind it
abbrev pub with_zeros : List ℕ → List ℕ
with_zeros s = s ++ replicate 16 0

-- "80-81 the tag's upper half, 82-83 a member number, 84-95 zero"
unfoldable pub new_fields : LongRecord → List Field
new_fields v =
    record { place = 80; width = 2; value = v.upper }
    ∷ record { place = 82; width = 2; value = v.member }
    ∷ record { place = 84; width = 12; value = 0 }
    ∷ []

-- "the old 80, then" these fields
unfoldable pub long_bytes : LongRecord → List ℕ
long_bytes v = put_fields (new_fields v) (with_zeros (bytes_of v.old))

-- "5 for a broken layout": any upper half and any member number may stand in a record
abbrev pub long_writer_tests : LongRecord → List Test
long_writer_tests v = record_layout when not (keeps_layout v.old) ∷ []

unfoldable pub long_writer_refusal : LongRecord → ℕ
long_writer_refusal v = first_of (long_writer_tests v)

-- "Result: the number, the rest zero"
unfoldable pub not_long : ℕ → LongWritten
not_long n = record { number = n; bytes = zero_long_bytes }

unfoldable pub write_long : LongRecord → LongWritten
write_long v =
    cond (eqb (long_writer_refusal v) 0) (record { number = 0; bytes = long_bytes v }) (not_long (long_writer_refusal v))
