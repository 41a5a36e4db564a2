-- The inputs determine the answer and every lent number: for each public function, any two results that its contract
-- allows are equal. Each line speaks of the contract as the checker reads it (`Reads.Post`), so that none can drift from
-- its function.
use Rattle.words.proofs.Settled.{determined, Settled}
use Rattle.c_control.proofs.runs

pub control_settled :
    Settled 4 runs.solkverva_control.Kinds.ps runs.solkverva_control.Kinds.r runs.solkverva_control.Reads.Post
control_settled κs a x y v w p q = (
  determined p.0 q.0,
  λ i. (
    v.0,
    (
      v.1.0,
      (
        v.1.1.0,
        (
          v.1.1.1.0,
          (
            v.1.1.1.1.0,
            (determined p.1.0 q.1.0 i, (determined p.1.1 q.1.1 i, v.1.1.1.1.1.1.1)),
          ),
        ),
      ),
    ),
  ),
)

pub control_on_settled :
    Settled 4 runs.solkverva_control_on.Kinds.ps runs.solkverva_control_on.Kinds.r runs.solkverva_control_on.Reads.Post
control_on_settled κs a x y v w p q = (
  determined p.0 q.0,
  λ i. (
    v.0,
    (
      v.1.0,
      (v.1.1.0, (determined p.1.0 q.1.0 i, (determined p.1.1 q.1.1 i, v.1.1.1.1.1))),
    ),
  ),
)
