-- The inputs determine the answer and every lent word: for each public function, any two results that its contract
-- allows are equal. Each line speaks of the contract as the checker reads it (`Reads.Post`), so that none can drift
-- from its function.
use mathlib.Core.Path.{refl}
use Rattle.words.proofs.Settled.{determined, Settled}
use Rattle.area.proofs.area
use Rattle.area.proofs.numbered

pub check_area_settled : Settled 1 area.check_area.Kinds.ps area.check_area.Kinds.r area.check_area.Reads.Post
check_area_settled κs a x y v w p q = (determined p q, refl)

pub ground_refusal_settled : Settled 1 area.ground_refusal.Kinds.ps area.ground_refusal.Kinds.r area.ground_refusal.Reads.Post
ground_refusal_settled κs a x y v w p q = (determined p q, refl)

pub is_read_settled : Settled 0 numbered.is_read.Kinds.ps numbered.is_read.Kinds.r numbered.is_read.Reads.Post
is_read_settled κs a x y v w p q = (determined p q, refl)

pub read_end_settled : Settled 0 numbered.read_end.Kinds.ps numbered.read_end.Kinds.r numbered.read_end.Reads.Post
read_end_settled κs a x y v w p q = (determined p.0 q.0, refl)

pub cell_numbered_settled : Settled 1 numbered.cell_numbered.Kinds.ps numbered.cell_numbered.Kinds.r numbered.cell_numbered.Reads.Post
cell_numbered_settled κs a x y v w p q = (determined p q, refl)
