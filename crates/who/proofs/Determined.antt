-- The inputs determine the answer and every lent word: for each public function, any two results that its contract
-- allows are equal. Each line speaks of the contract as the checker reads it (`Reads.Post`), so that none can drift
-- from its function.
use mathlib.Core.Path.{refl}
use Rattle.words.proofs.Settled.{determined, Settled}
use Rattle.who.proofs.standing
use Rattle.who.proofs.tests
use Rattle.who.proofs.values

pub part_kind_settled : Settled 0 values.part_kind.Kinds.ps values.part_kind.Kinds.r values.part_kind.Reads.Post
part_kind_settled κs a x y v w p q = (determined p q, refl)

pub part_place_settled : Settled 0 values.part_place.Kinds.ps values.part_place.Kinds.r values.part_place.Reads.Post
part_place_settled κs a x y v w p q = (determined p q, refl)

pub values_of_settled : Settled 0 values.values_of.Kinds.ps values.values_of.Kinds.r values.values_of.Reads.Post
values_of_settled κs a x y v w p q = (determined p q, refl)

pub begin_settled : Settled 0 standing.begin.Kinds.ps standing.begin.Kinds.r standing.begin.Reads.Post
begin_settled κs a x y v w p q = (determined p q, refl)

pub who_refusal_settled : Settled 0 tests.who_refusal.Kinds.ps tests.who_refusal.Kinds.r tests.who_refusal.Reads.Post
who_refusal_settled κs a x y v w p q = (determined p q, refl)
