-- The inputs determine the answer and every lent word: for each public function, any two results that its contract
-- allows are equal. Each line speaks of the contract as the checker reads it (`Reads.Post`), so that none can drift
-- from its function.
use mathlib.Core.Path.{refl}
use Rattle.words.proofs.Settled.{determined, Settled}
use Rattle.who_tables.proofs.table
use Rattle.who_tables.proofs.tests

pub number_at_settled : Settled 1 table.number_at.Kinds.ps table.number_at.Kinds.r table.number_at.Reads.Post
number_at_settled κs a x y v w p q = (determined p q, refl)

pub put_number_settled : Settled 1 table.put_number.Kinds.ps table.put_number.Kinds.r table.put_number.Reads.Post
put_number_settled κs a x y v w p q = (refl, λ i. (determined p q i, v.1))

pub entry_at_settled : Settled 2 table.entry_at.Kinds.ps table.entry_at.Kinds.r table.entry_at.Reads.Post
entry_at_settled κs a x y v w p q = (determined p q, refl)

pub mark_plan_settled : Settled 2 table.mark_plan.Kinds.ps table.mark_plan.Kinds.r table.mark_plan.Reads.Post
mark_plan_settled κs a x y v w p q =
    (refl, λ i. (determined p.0 q.0 i, (determined p.1 q.1 i, v.1.1)))

pub fill_refusal_settled : Settled 0 tests.fill_refusal.Kinds.ps tests.fill_refusal.Kinds.r tests.fill_refusal.Reads.Post
fill_refusal_settled κs a x y v w p q = (determined p q, refl)
