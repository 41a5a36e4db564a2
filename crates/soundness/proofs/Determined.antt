-- The inputs determine the answer and every lent word: for each public function, any two results that its contract
-- allows are equal. Each line speaks of the contract as the checker reads it (`Reads.Post`), so that none can drift
-- from its function.
use mathlib.Core.Path.{refl}
use Rattle.words.proofs.Settled.{determined, Settled}
use Rattle.soundness.proofs.cell
use Rattle.soundness.proofs.faults
use Rattle.soundness.proofs.stack

pub scheme_number_settled : Settled 0 cell.scheme_number.Kinds.ps cell.scheme_number.Kinds.r cell.scheme_number.Reads.Post
scheme_number_settled κs a x y v w p q = (determined p q, refl)

pub describe_cell_settled : Settled 1 cell.describe_cell.Kinds.ps cell.describe_cell.Kinds.r cell.describe_cell.Reads.Post
describe_cell_settled κs a x y v w p q = (determined p q, refl)

pub describe_stack_settled : Settled 1 stack.describe_stack.Kinds.ps stack.describe_stack.Kinds.r stack.describe_stack.Reads.Post
describe_stack_settled κs a x y v w p q = (determined p q, refl)

pub cell_faults_settled : Settled 0 faults.cell_faults.Kinds.ps faults.cell_faults.Kinds.r faults.cell_faults.Reads.Post
cell_faults_settled κs a x y v w p q = (determined p q, refl)

pub stack_faults_settled : Settled 1 faults.stack_faults.Kinds.ps faults.stack_faults.Kinds.r faults.stack_faults.Reads.Post
stack_faults_settled κs a x y v w p q = (determined p q, refl)
