-- The inputs determine the answer: for each public function, any two results that its contract allows are equal. Each
-- line speaks of the contract as the checker reads it (`Reads.Post`), so that none can drift from its function.
use mathlib.Core.Path.{refl}
use Rattle.words.proofs.Settled.{determined, Settled}
use Rattle.control.proofs.machine
use Rattle.control.proofs.step
use Rattle.control.proofs.run
use Rattle.control.proofs.start

pub machine_at_settled : Settled 0 machine.machine_at.Kinds.ps machine.machine_at.Kinds.r machine.machine_at.Reads.Post
machine_at_settled κs a x y v w p q = (determined p q, refl)

pub is_going_settled : Settled 0 machine.is_going.Kinds.ps machine.is_going.Kinds.r machine.is_going.Reads.Post
is_going_settled κs a x y v w p q = (determined p q, refl)

pub is_carried_out_settled :
    Settled 0 machine.is_carried_out.Kinds.ps machine.is_carried_out.Kinds.r machine.is_carried_out.Reads.Post
is_carried_out_settled κs a x y v w p q = (determined p q, refl)

pub refusal_in_settled : Settled 0 machine.refusal_in.Kinds.ps machine.refusal_in.Kinds.r machine.refusal_in.Reads.Post
refusal_in_settled κs a x y v w p q = (determined p q, refl)

pub end_kind_settled : Settled 0 machine.end_kind.Kinds.ps machine.end_kind.Kinds.r machine.end_kind.Reads.Post
end_kind_settled κs a x y v w p q = (determined p q, refl)

pub step_settled : Settled 2 step.step.Kinds.ps step.step.Kinds.r step.step.Reads.Post
step_settled κs a x y v w p q = (determined p q, refl)

pub run_settled : Settled 2 run.run.Kinds.ps run.run.Kinds.r run.run.Reads.Post
run_settled κs a x y v w p q = (determined p q, refl)

pub start_at_settled : Settled 2 start.start_at.Kinds.ps start.start_at.Kinds.r start.start_at.Reads.Post
start_at_settled κs a x y v w p q = (determined p q, refl)

pub go_on_settled : Settled 2 start.go_on.Kinds.ps start.go_on.Kinds.r start.go_on.Reads.Post
go_on_settled κs a x y v w p q = (determined p q, refl)
