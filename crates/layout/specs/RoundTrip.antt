-- What writing a value and reading it back gives, and what reading bytes and writing them back gives.
use Rattle.std.specs.Prelude.{ℕ, cond, List, eqb}
use Rattle.records.specs.declared.value.Record.{Record}
use Rattle.layout.specs.declared.reader.Reading.{Reading}
use Rattle.layout.specs.declared.writer.Written.{Written}
use Rattle.words.specs.Number.{record_layout}
use Rattle.records.specs.Value.{keeps_layout}
use Rattle.layout.specs.Layout.{reader_refusal, not_read}
use Rattle.layout.specs.Writing.{zero_bytes}

-- the value itself, where it keeps the layout; the writer's refusal 5 where it does not
unfoldable pub read_back : Record → Reading
read_back v = cond (keeps_layout v) (record { number = 0; value = v }) (not_read record_layout)

-- the bytes themselves, where the reader takes them; the reader's refusal where it does not
unfoldable pub write_back : List ℕ → Written
write_back s = cond (eqb (reader_refusal s) 0) (record { number = 0; bytes = s }) (record { number = reader_refusal s; bytes = zero_bytes })
