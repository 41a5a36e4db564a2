-- The inputs determine the answer: for each public function, any two results that its contract allows are equal.
-- Each line speaks of the contract as the checker reads it (`Reads.Post`), so that none can drift from its function.
use mathlib.Core.Path.{refl}
use Rattle.words.proofs.Settled.{determined, Settled}
use Rattle.layout.proofs.reader
use Rattle.layout.proofs.round_trip
use Rattle.layout.proofs.writer

pub join_settled : Settled 0 reader.join.Kinds.ps reader.join.Kinds.r reader.join.Reads.Post
join_settled κs a x y v w p q = (determined p q, refl)

pub are_zero_settled : Settled 1 reader.are_zero.Kinds.ps reader.are_zero.Kinds.r reader.are_zero.Reads.Post
are_zero_settled κs a x y v w p q = (determined p q, refl)

pub read_settled : Settled 1 reader.read.Kinds.ps reader.read.Kinds.r reader.read.Reads.Post
read_settled κs a x y v w p q = (determined p q, refl)

pub read_written_settled : Settled 0 round_trip.read_written.Kinds.ps round_trip.read_written.Kinds.r round_trip.read_written.Reads.Post
read_written_settled κs a x y v w p q = (determined p q, refl)

pub write_read_settled : Settled 1 round_trip.write_read.Kinds.ps round_trip.write_read.Kinds.r round_trip.write_read.Reads.Post
write_read_settled κs a x y v w p q = (determined p q, refl)

pub put_word_settled : Settled 1 writer.put_word.Kinds.ps writer.put_word.Kinds.r writer.put_word.Reads.Post
put_word_settled κs a x y v w p q = (refl, λ i. (determined p q i, v.1))

pub write_settled : Settled 0 writer.write.Kinds.ps writer.write.Kinds.r writer.write.Reads.Post
write_settled κs a x y v w p q = (determined p q, refl)
