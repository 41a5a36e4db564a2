-- The inputs determine the answer and every lent word: for each public function, any two results that its contract
-- allows are equal. Each line speaks of the contract as the checker reads it (`Reads.Post`), so that none can drift
-- from its function.
use mathlib.Core.Path.{refl}
use Rattle.words.proofs.Settled.{determined, Settled}
use Rattle.c_questions.proofs.calls
use Rattle.c_questions.proofs.descriptions

pub check_area_settled : Settled 2 calls.solkverva_check_area.Kinds.ps calls.solkverva_check_area.Kinds.r calls.solkverva_check_area.Reads.Post
check_area_settled κs a x y v w p q = (determined p q, refl)

pub read_settled : Settled 2 calls.solkverva_read.Kinds.ps calls.solkverva_read.Kinds.r calls.solkverva_read.Reads.Post
read_settled κs a x y v w p q = (determined p.0 q.0, λ i. (v.0, (determined p.1 q.1 i, v.1.1)))

pub write_settled : Settled 2 calls.solkverva_write.Kinds.ps calls.solkverva_write.Kinds.r calls.solkverva_write.Reads.Post
write_settled κs a x y v w p q = (determined p.0 q.0, λ i. (v.0, (determined p.1 q.1 i, v.1.1)))

pub label_cell_settled :
    Settled 3 calls.solkverva_label_cell.Kinds.ps calls.solkverva_label_cell.Kinds.r calls.solkverva_label_cell.Reads.Post
label_cell_settled κs a x y v w p q =
    (determined p.0 q.0, λ i. (v.0, (v.1.0, (v.1.1.0, (determined p.1 q.1 i, v.1.1.1.1)))))

pub label_area_settled :
    Settled 5 calls.solkverva_label_area.Kinds.ps calls.solkverva_label_area.Kinds.r calls.solkverva_label_area.Reads.Post
label_area_settled κs a x y v w p q = (
  determined p.0 q.0,
  λ i. (
    v.0,
    (
      v.1.0,
      (
        determined p.1.0 q.1.0 i,
        (determined p.1.1.0 q.1.1.0 i, (determined p.1.1.1 q.1.1.1 i, v.1.1.1.1.1)),
      ),
    ),
  ),
)

pub describe_cell_settled :
    Settled 3 descriptions.solkverva_describe_cell.Kinds.ps descriptions.solkverva_describe_cell.Kinds.r descriptions.solkverva_describe_cell.Reads.Post
describe_cell_settled κs a x y v w p q =
    (determined p.0 q.0, λ i. (v.0, (v.1.0, (v.1.1.0, (determined p.1 q.1 i, v.1.1.1.1)))))

pub describe_stack_settled :
    Settled 3 descriptions.solkverva_describe_stack.Kinds.ps descriptions.solkverva_describe_stack.Kinds.r descriptions.solkverva_describe_stack.Reads.Post
describe_stack_settled κs a x y v w p q =
    (determined p.0 q.0, λ i. (v.0, (v.1.0, (determined p.1 q.1 i, v.1.1.1))))
