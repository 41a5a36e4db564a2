-- The inputs determine the answer: for each public function, any two results that its contract allows are equal.
use mathlib.Core.Path.{refl}
use Rattle.words.proofs.Settled.{determined, Settled}
use Rattle.exchange_asked.proofs.neighbours

pub well_formed_settled : Settled 0 neighbours.well_formed.Kinds.ps neighbours.well_formed.Kinds.r neighbours.well_formed.Reads.Post
well_formed_settled κs a x y v w p q = (determined p q, refl)

pub may_exchange_settled : Settled 1 neighbours.may_exchange.Kinds.ps neighbours.may_exchange.Kinds.r neighbours.may_exchange.Reads.Post
may_exchange_settled κs a x y v w p q = (determined p q, refl)
