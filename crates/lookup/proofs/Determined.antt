-- The inputs determine the answer and every lent word: for each public function, any two results that its contract
-- allows are equal. Each line speaks of the contract as the checker reads it (`Reads.Post`), so that none can drift
-- from its function.
use mathlib.Core.Path.{refl}
use Rattle.words.proofs.Settled.{determined, Settled}
use Rattle.lookup.proofs.target

pub target_with_settled : Settled 1 target.target_with.Kinds.ps target.target_with.Kinds.r target.target_with.Reads.Post
target_with_settled κs a x y v w p q = (determined p q, refl)

pub target_of_settled : Settled 1 target.target_of.Kinds.ps target.target_of.Kinds.r target.target_of.Reads.Post
target_of_settled κs a x y v w p q = (determined p q, refl)

pub cell_for_settled : Settled 1 target.cell_for.Kinds.ps target.cell_for.Kinds.r target.cell_for.Reads.Post
cell_for_settled κs a x y v w p q = (determined p q, refl)
