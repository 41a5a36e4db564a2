-- What writing a record value gives.
use Rattle.std.specs.Prelude.{ℕ, zero, suc, ◌+◌, ◌*◌, not, cond, List, [], ◌∷◌, ◌++◌, get_or, replicate, eqb}
use Rattle.words.specs.Sizes.{record_bytes}
use Rattle.records.specs.declared.value.Record.{Record}
use Rattle.layout.specs.declared.writer.Written.{Written}
use Rattle.records.specs.Value.{keeps_layout}
use Rattle.words.specs.Number.{record_layout}
use Rattle.words.specs.Refusal.{◌when◌, first_of}
use Rattle.layout.specs.Fields.{Field, put_fields}

-- "The writer starts from 80 zero bytes."
abbrev pub zero_bytes : List ℕ
zero_bytes = replicate record_bytes 0

-- "Bytes 0-1 command; .. 4-5 time tag; 6 flags ..; 7 count; 8-15 zero"; "bytes 2-3 hold the transmit command"
unfoldable pub header_fields : Record → List Field
header_fields v =
    record { place = 0; width = 2; value = v.command }
    ∷ record { place = 2; width = 2; value = v.transmit_command }
    ∷ record { place = 4; width = 2; value = v.tag }
    ∷ record { place = 6; width = 1; value = v.flags }
    ∷ record { place = 7; width = 1; value = v.count }
    ∷ record { place = 8; width = 8; value = 0 }
    ∷ []

-- "16-79 thirty-two words": the first n of them
unfoldable pub word_fields : List ℕ → ℕ → List Field
word_fields words zero = []
word_fields words (suc n) = word_fields words n ++ (record { place = 16 + 2 * n; width = 2; value = get_or words n 0 } ∷ [])

unfoldable pub fields_of : Record → List Field
fields_of v = header_fields v ++ word_fields v.words 32

-- the writer's two steps: the header, and the first n words
unfoldable pub header_of : Record → List ℕ
header_of v = put_fields (header_fields v) zero_bytes

abbrev pub put_words : List ℕ → List ℕ → ℕ → List ℕ
put_words s words n = put_fields (word_fields words n) s

-- "A message record has 80 bytes": every field, put into zero bytes
unfoldable pub bytes_of : Record → List ℕ
bytes_of v = put_fields (fields_of v) zero_bytes

-- "It refuses a record value that breaks these rules." "5: record breaks its layout (also the writer's answer)"
unfoldable pub writer_refusal : Record → ℕ
writer_refusal v = first_of (record_layout when not (keeps_layout v) ∷ [])

-- "Result: the number, the rest zero"
unfoldable pub write_record : Record → Written
write_record v =
    cond (eqb (writer_refusal v) 0) (record { number = 0; bytes = bytes_of v })
    (record { number = writer_refusal v; bytes = zero_bytes })
