-- The inputs determine the answer: for each public function, any two results that its contract allows are equal.
-- Each line speaks of the contract as the checker reads it (`Reads.Post`), so that none can drift from its function.
use mathlib.Core.Path.{refl}
use Rattle.words.proofs.Settled.{determined, Settled}
use Rattle.plan.proofs.act
use Rattle.plan.proofs.motion
use Rattle.plan.proofs.deed
use Rattle.plan.proofs.plan

pub act_of_settled : Settled 0 act.act_of.Kinds.ps act.act_of.Kinds.r act.act_of.Reads.Post
act_of_settled κs a x y v w p q = (determined p q, refl)

pub motion_of_settled : Settled 0 motion.motion_of.Kinds.ps motion.motion_of.Kinds.r motion.motion_of.Reads.Post
motion_of_settled κs a x y v w p q = (determined p q, refl)

pub deed_of_settled : Settled 0 deed.deed_of.Kinds.ps deed.deed_of.Kinds.r deed.deed_of.Reads.Post
deed_of_settled κs a x y v w p q = (determined p q, refl)

pub plan_for_settled : Settled 0 plan.plan_for.Kinds.ps plan.plan_for.Kinds.r plan.plan_for.Reads.Post
plan_for_settled κs a x y v w p q = (determined p q, refl)
