-- Outcomes used: each message that is executed takes one record, and nothing else does.
use Prim.Native.Nat.{ℕ, zero, suc, ◌+◌, ◌*◌}
use native.Mathlib.Omega.{arith}
use mathlib.Core.Path.{◌≡◌, sym}
use mathlib.Core.Logic.{⊎_elim}
use mathlib.Core.Bool.{Bool, true, false, cond, ◌&&◌, true≢false}
use mathlib.Core.List.{List}
use lib.ListN.{get_or}
use lib.Dec.{leb, eqb}
use Rattle.words.specs.Bits.{bit_of}
use Rattle.words.proofs.Basics.{yes_or_no}
use Rattle.trace_view.specs.View.{has_record, none_at, taken_at}
use Rattle.control_words.specs.declared.opcode.Operation.{Operation}
use Rattle.control_words.specs.declared.opcode.Operation.TheVariants.{Execute, Jump, Call, Return, Halt, Flag, Unknown}
use Rattle.control_words.specs.OpCode.{operation_of}
use Rattle.control_words.specs.Condition.{is_due}
use Rattle.control.specs.declared.machine.Machine.{Machine}
use Rattle.control.specs.declared.run.Ran.{Ran}
use Rattle.control.specs.Machine.{is_going, moved_to, moved_on, called_to, returned_from, flagged_by, heard_of, going_on}
use Rattle.control.specs.Step.{has_pair, is_outcome, executed, called, returned, performed, carried_out, step_of}
use Rattle.control.specs.Run.{stepped, advanced, run_from}
use Rattle.control.specs.Executed.{is_execute, executes_at, executed_to}

-- an outcome is 80 bytes
outcome_place : (trace : List ℕ) (at : ℕ) → is_outcome (taken_at trace at) ≡ true → (taken_at trace at).at ≡ at + 80
unfolding taken_at none_at
outcome_place trace at h =
    ⊎_elim (λ (y : has_record trace at ≡ true). rw y)
    (λ (n : has_record trace at ≡ false). absurd (true≢false (sym (rw n at h))))
    (yes_or_no (has_record trace at))

-- a message that is executed moves the trace's place, and one without an outcome does not
executed_place :
    (trace : List ℕ) (m : Machine) →
    (executed trace m).machine.place ≡ m.place + 80 * bit_of (is_outcome (taken_at trace m.place))
unfolding executed heard_of
executed_place trace m =
    ⊎_elim
    (λ (y : is_outcome (taken_at trace m.place) ≡ true). rw y (outcome_place trace m.place y))
    (λ (n : is_outcome (taken_at trace m.place) ≡ false). rw n (omega arith))
    (yes_or_no (is_outcome (taken_at trace m.place)))

-- an instruction, due or passed over
chosen_place :
    (trace : List ℕ) (m : Machine) (o : Operation) (parameter : ℕ) (due : Bool) →
    (cond due (performed trace m o parameter) (going_on (moved_on m))).machine.place
    ≡ m.place + 80 * bit_of ((is_execute o && due) && is_outcome (taken_at trace m.place))
unfolding called returned moved_to moved_on called_to returned_from flagged_by
chosen_place trace m Execute parameter true = executed_place trace m
chosen_place trace m Execute parameter false = omega arith
chosen_place trace m Jump parameter true = omega arith
chosen_place trace m Jump parameter false = omega arith
chosen_place trace m Call parameter true =
    ⊎_elim (λ (y : leb 4 m.depth ≡ true). rw y (omega arith)) (λ (n : leb 4 m.depth ≡ false). rw n (omega arith))
    (yes_or_no (leb 4 m.depth))
chosen_place trace m Call parameter false = omega arith
chosen_place trace m Return parameter true =
    ⊎_elim (λ (y : eqb m.depth 0 ≡ true). rw y (omega arith)) (λ (n : eqb m.depth 0 ≡ false). rw n (omega arith))
    (yes_or_no (eqb m.depth 0))
chosen_place trace m Return parameter false = omega arith
chosen_place trace m Halt parameter true = omega arith
chosen_place trace m Halt parameter false = omega arith
chosen_place trace m Flag parameter true = omega arith
chosen_place trace m Flag parameter false = omega arith
chosen_place trace m Unknown parameter true = omega arith
chosen_place trace m Unknown parameter false = omega arith

step_place :
    (ram trace : List ℕ) (m : Machine) →
    (step_of ram trace m).machine.place ≡ m.place + 80 * bit_of (executes_at ram trace m)
unfolding step_of carried_out executes_at
step_place ram trace m =
    let word = get_or ram m.pointer 0 in
    ⊎_elim
    (λ (y : has_pair ram m.pointer ≡ true).
    rw y
    (chosen_place trace m (operation_of word) (get_or ram (m.pointer + 1) 0)
    (is_due (operation_of word) word m.flags m.last)))
    (λ (n : has_pair ram m.pointer ≡ false). rw n (omega arith))
    (yes_or_no (has_pair ram m.pointer))

advance_place :
    (ram trace : List ℕ) (r : Ran) →
    (advanced ram trace r).machine.place
    ≡ r.machine.place + 80 * bit_of (is_going r.end && executes_at ram trace r.machine)
unfolding advanced stepped
advance_place ram trace r =
    ⊎_elim (λ (g : is_going r.end ≡ true). rw g (step_place ram trace r.machine))
    (λ (g : is_going r.end ≡ false). rw g (omega arith))
    (yes_or_no (is_going r.end))

-- the outcomes that a run has used are exactly the messages that it executed
pub used_executed :
    (ram trace : List ℕ) (r : Ran) (n : ℕ) →
    (run_from ram trace r n).machine.place ≡ r.machine.place + 80 * executed_to ram trace r n
unfolding run_from executed_to
used_executed ram trace r zero = omega arith
used_executed ram trace r (suc n) =
    let before = used_executed ram trace r n in
    let one = advance_place ram trace (run_from ram trace r n) in
    omega (arith, before, one)
