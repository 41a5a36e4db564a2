-- The inputs determine the answer and every lent word: for each public function, any two results that its contract
-- allows are equal. Each line speaks of the contract as the checker reads it (`Reads.Post`), so that none can drift
-- from its function.
use mathlib.Core.Path.{refl}
use Rattle.words.proofs.Settled.{determined, Settled}
use Rattle.who_origin.proofs.origin

pub who_wrote_settled : Settled 0 origin.who_wrote.Kinds.ps origin.who_wrote.Kinds.r origin.who_wrote.Reads.Post
who_wrote_settled κs a x y v w p q = (determined p q, refl)
