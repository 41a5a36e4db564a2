-- One step of the machine: the fetch, the condition, and what the operation does.
use Rattle.std.specs.Prelude.{ℕ, ◌+◌, Bool, cond, ◌&&◌, List, length, get_or, leb, eqb}
use Rattle.trace_view.specs.declared.view.Taken.{Taken}
use Rattle.trace_view.specs.View.{taken_at}
use Rattle.control_words.specs.declared.opcode.Operation.{Operation}
use Rattle.control_words.specs.declared.opcode.Operation.TheVariants.{Execute, Jump, Call, Return, Halt, Flag, Unknown}
use Rattle.control_words.specs.OpCode.{operation_of}
use Rattle.control_words.specs.Condition.{is_due}
use Rattle.control_words.specs.Outcome.{outcome_shown}
use Rattle.control.specs.declared.machine.Machine.{Machine}
use Rattle.control.specs.declared.machine.End.TheVariants.{Halt as Halted, Bad, NoOutcome}
use Rattle.control.specs.declared.machine.Stand.{Stand}
use Rattle.control.specs.Machine.{moved_to, moved_on, called_to, returned_from, flagged_by, heard_of, standing, going_on}

-- the op code word and its parameter lie in RAM: "Running off the RAM's end is a bad instruction."
abbrev pub has_pair : List ℕ → ℕ → Bool
has_pair ram at = leb (at + 2) (length ram)

-- an outcome is a whole record that keeps its layout
abbrev pub is_outcome : Taken → Bool
is_outcome t = t.found && eqb t.reading.number 0

-- "Executes the message": its outcome is the next record of the trace; "no outcome left for a message" ends the run and
-- moves nothing
unfoldable pub executed : List ℕ → Machine → Stand
executed trace m =
    cond (is_outcome (taken_at trace m.place))
    (going_on (heard_of m (outcome_shown (taken_at trace m.place).reading.value) (taken_at trace m.place).at))
    (standing NoOutcome m)

-- "Note that the maximum depth of the subroutine call stack is four."
unfoldable pub called : Machine → ℕ → Stand
called m at = cond (leb 4 m.depth) (standing Bad m) (going_on (called_to m at))

-- "Similarly, if the call stack depth is zero, a subsequent RTN instruction will also result in a Call Stack Register
-- Error."
unfoldable pub returned : Machine → Stand
returned m = cond (eqb m.depth 0) (standing Bad m) (going_on (returned_from m))

-- what an operation does where it is due
abbrev pub performed : List ℕ → Machine → Operation → ℕ → Stand
performed trace m Execute parameter = executed trace m
performed trace m Jump parameter = going_on (moved_to m parameter)
performed trace m Call parameter = called m parameter
performed trace m Return parameter = returned m
performed trace m Halt parameter = standing Halted (moved_on m)
performed trace m Flag parameter = going_on (flagged_by m parameter)
performed trace m Unknown parameter = standing Bad m

-- "If the condition code field tests false, the instruction list pointer will skip down to the next instruction."
unfoldable pub carried_out : List ℕ → Machine → ℕ → ℕ → Stand
carried_out trace m word parameter =
    cond (is_due (operation_of word) word m.flags m.last) (performed trace m (operation_of word) parameter)
    (going_on (moved_on m))

-- "the message sequence control processor fetches the operation referenced by the instruction list pointer register"
unfoldable pub step_of : List ℕ → List ℕ → Machine → Stand
step_of ram trace m =
    cond (has_pair ram m.pointer)
    (carried_out trace m (get_or ram m.pointer 0) (get_or ram (m.pointer + 1) 0))
    (standing Bad m)
