-- How many messages a run executes: "execute message" instructions that are carried out.
use Rattle.std.specs.Prelude.{ℕ, zero, suc, ◌+◌, Bool, ◌&&◌, List, get_or, eqb}
use Rattle.words.specs.Bits.{bit_of}
use Rattle.trace_view.specs.View.{taken_at}
use Rattle.control_words.specs.declared.opcode.Operation.{Operation}
use Rattle.control_words.specs.OpCode.{op_code_number, operation_of}
use Rattle.control_words.specs.Condition.{is_due}
use Rattle.control.specs.declared.machine.Machine.{Machine}
use Rattle.control.specs.declared.run.Ran.{Ran}
use Rattle.control.specs.Machine.{is_going}
use Rattle.control.specs.Step.{has_pair, is_outcome}
use Rattle.control.specs.Run.{run_from}

abbrev pub is_execute : Operation → Bool
is_execute o = eqb (op_code_number o) 0x01

-- the next instruction is one, it is due, and there is an outcome for it
unfoldable pub executes_at : List ℕ → List ℕ → Machine → Bool
executes_at ram trace m =
    has_pair ram m.pointer
    && ((is_execute (operation_of (get_or ram m.pointer 0))
    && is_due (operation_of (get_or ram m.pointer 0)) (get_or ram m.pointer 0) m.flags m.last)
    && is_outcome (taken_at trace m.place))

-- how many a run of n steps executes
unfoldable pub executed_to : List ℕ → List ℕ → Ran → ℕ → ℕ
executed_to ram trace r zero = 0
executed_to ram trace r (suc n) =
    executed_to ram trace r n
    + bit_of (is_going (run_from ram trace r n).end && executes_at ram trace (run_from ram trace r n).machine)
