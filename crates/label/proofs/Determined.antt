-- The inputs determine the answer and every lent word: for each public function, any two results that its contract
-- allows are equal, and so are any two last values of each lent word. Each line speaks of the contract as the checker
-- reads it (`Reads.Post`), so that none can drift from its function.
use mathlib.Core.Path.{refl}
use Rattle.words.proofs.Settled.{determined, Settled}
use Rattle.label.proofs.one
use Rattle.label.proofs.whole

pub find_sharers_settled : Settled 2 one.find_sharers.Kinds.ps one.find_sharers.Kinds.r one.find_sharers.Reads.Post
find_sharers_settled κs a x y v w p q =
    (determined p.0 q.0, λ i. (v.0, (v.1.0, (v.1.1.0, (determined p.1 q.1 i, v.1.1.1.1)))))

pub label_cell_settled : Settled 1 one.label_cell.Kinds.ps one.label_cell.Kinds.r one.label_cell.Reads.Post
label_cell_settled κs a x y v w p q = (determined p q, refl)

pub label_area_settled : Settled 2 whole.label_area.Kinds.ps whole.label_area.Kinds.r whole.label_area.Reads.Post
label_area_settled κs a x y v w p q =
    (determined p.0 q.0, λ i. (v.0, (v.1.0, (determined p.1 q.1 i, v.1.1.1))))

pub sharer_numbered_settled : Settled 0 one.sharer_numbered.Kinds.ps one.sharer_numbered.Kinds.r one.sharer_numbered.Reads.Post
sharer_numbered_settled κs a x y v w p q = (determined p q, refl)
