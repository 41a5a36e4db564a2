-- The inputs determine the answer: for each public function, any two results that its contract allows are equal. Each
-- line speaks of the contract as the checker reads it (`Reads.Post`), so that none can drift from its function.
use mathlib.Core.Path.{refl}
use Rattle.words.proofs.Settled.{determined, Settled}
use Rattle.control_words.proofs.condition
use Rattle.control_words.proofs.flags
use Rattle.control_words.proofs.opcode
use Rattle.control_words.proofs.outcome

pub operation_of_settled : Settled 0 opcode.operation_of.Kinds.ps opcode.operation_of.Kinds.r opcode.operation_of.Reads.Post
operation_of_settled κs a x y v w p q = (determined p q, refl)

pub op_code_number_settled :
    Settled 0 opcode.op_code_number.Kinds.ps opcode.op_code_number.Kinds.r opcode.op_code_number.Reads.Post
op_code_number_settled κs a x y v w p q = (determined p q, refl)

pub no_outcome_settled :
    Settled 0 condition.no_outcome.Kinds.ps condition.no_outcome.Kinds.r condition.no_outcome.Reads.Post
no_outcome_settled κs a x y v w p q = (determined p q, refl)

pub due_settled : Settled 0 condition.due.Kinds.ps condition.due.Kinds.r condition.due.Reads.Post
due_settled κs a x y v w p q = (determined p q, refl)

pub flags_after_settled : Settled 0 flags.flags_after.Kinds.ps flags.flags_after.Kinds.r flags.flags_after.Reads.Post
flags_after_settled κs a x y v w p q = (determined p q, refl)

pub outcome_shown_settled :
    Settled 0 outcome.outcome_shown.Kinds.ps outcome.outcome_shown.Kinds.r outcome.outcome_shown.Reads.Post
outcome_shown_settled κs a x y v w p q = (determined p q, refl)
