-- The inputs determine the answer: for each public function, any two results that its contract allows are equal.
-- Each line speaks of the contract as the checker reads it (`Reads.Post`), so that none can drift from its function.
use mathlib.Core.Path.{refl}
use Rattle.words.proofs.Settled.{determined, Settled}
use Rattle.layout_long.proofs.conversion
use Rattle.layout_long.proofs.reader
use Rattle.layout_long.proofs.round_trip
use Rattle.layout_long.proofs.value
use Rattle.layout_long.proofs.writer

pub zero_long_settled : Settled 0 value.zero_long.Kinds.ps value.zero_long.Kinds.r value.zero_long.Reads.Post
zero_long_settled κs a x y v w p q = (determined p q, refl)

pub read_old_settled : Settled 1 reader.read_old.Kinds.ps reader.read_old.Kinds.r reader.read_old.Reads.Post
read_old_settled κs a x y v w p q = (determined p q, refl)

pub read_long_settled : Settled 1 reader.read_long.Kinds.ps reader.read_long.Kinds.r reader.read_long.Reads.Post
read_long_settled κs a x y v w p q = (determined p q, refl)

pub write_long_settled : Settled 0 writer.write_long.Kinds.ps writer.write_long.Kinds.r writer.write_long.Reads.Post
write_long_settled κs a x y v w p q = (determined p q, refl)

pub longer_settled : Settled 1 conversion.longer.Kinds.ps conversion.longer.Kinds.r conversion.longer.Reads.Post
longer_settled κs a x y v w p q = (determined p q, refl)

pub shorter_settled : Settled 1 conversion.shorter.Kinds.ps conversion.shorter.Kinds.r conversion.shorter.Reads.Post
shorter_settled κs a x y v w p q = (determined p q, refl)

pub read_written_long_settled :
    Settled 0 round_trip.read_written_long.Kinds.ps round_trip.read_written_long.Kinds.r round_trip.read_written_long.Reads.Post
read_written_long_settled κs a x y v w p q = (determined p q, refl)

pub write_read_long_settled :
    Settled 1 round_trip.write_read_long.Kinds.ps round_trip.write_read_long.Kinds.r round_trip.write_read_long.Reads.Post
write_read_long_settled κs a x y v w p q = (determined p q, refl)
