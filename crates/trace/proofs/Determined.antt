-- The inputs determine the answer: for each public function, any two results that its contract allows are equal, and so
-- are any two last values of each lent word. Each line speaks of the contract as the checker reads it (`Reads.Post`),
-- so that none can drift from its function.
use Rattle.words.proofs.Settled.{determined, Settled}
use Rattle.trace.proofs.walk

pub walk_settled : Settled 4 walk.walk.Kinds.ps walk.walk.Kinds.r walk.walk.Reads.Post
walk_settled κs a x y v w p q = (
  determined p.0 q.0,
  λ i. (
    determined p.1.0 q.1.0 i,
    (determined p.1.1.0 q.1.1.0 i, (determined p.1.1.1 q.1.1.1 i, v.1.1.1)),
  ),
)
