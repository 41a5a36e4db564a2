-- What writing a long record and reading it back gives, and what reading bytes and writing them back gives.
use Rattle.std.specs.Prelude.{ℕ, cond, List, eqb}
use Rattle.layout_long.specs.declared.value.LongRecord.{LongRecord}
use Rattle.layout_long.specs.declared.reader.LongReading.{LongReading}
use Rattle.layout_long.specs.declared.writer.LongWritten.{LongWritten}
use Rattle.layout_long.specs.Long.{long_refusal, not_read_long}
use Rattle.layout_long.specs.WritingLong.{long_writer_refusal, not_long}

-- the value itself, where the writer takes it; its refusal where it does not
unfoldable pub long_read_back : LongRecord → LongReading
long_read_back v =
    cond (eqb (long_writer_refusal v) 0) (record { number = 0; value = v }) (not_read_long (long_writer_refusal v))

-- the bytes themselves, where the reader takes them; its refusal where it does not
unfoldable pub long_write_back : List ℕ → LongWritten
long_write_back s = cond (eqb (long_refusal s) 0) (record { number = 0; bytes = s }) (not_long (long_refusal s))
