-- How runs end: a step never refuses, so a run's number is the entry point's own.
use Prim.Native.Nat.{ℕ, zero, suc, ◌+◌, ◌%◌}
use mathlib.Core.Path.{◌≡◌, refl, sym, ◌∙◌}
use mathlib.Core.Logic.{⊎_elim}
use mathlib.Core.Bool.{true, false, cond}
use mathlib.Core.List.{List}
use lib.ListN.{get_or}
use lib.Dec.{leb, eqb}
use borrow.Author.Tests.{eq-eqb, ne_eqb}
use Rattle.words.proofs.Basics.{yes_or_no, eq_or_ne}
use Rattle.trace_view.specs.View.{taken_at}
use Rattle.control_words.specs.declared.opcode.Operation.{Operation}
use Rattle.control_words.specs.declared.opcode.Operation.TheVariants.{Execute, Jump, Call, Return, Halt, Flag, Unknown}
use Rattle.control_words.specs.OpCode.{operation_of}
use Rattle.control_words.specs.Condition.{is_due}
use Rattle.control.specs.declared.machine.Machine.{Machine}
use Rattle.control.specs.declared.run.Ran.{Ran}
use Rattle.control.specs.Machine.{machine_at, is_going, refusal_in}
use Rattle.control.specs.Step.{has_pair, is_outcome, executed, called, returned, performed, carried_out, step_of}
use Rattle.control.specs.Run.{begun, stepped, advanced, run_from, run_for}
use Rattle.control.specs.Start.{not_run, start_refusal, started_at, go_on_refusal, gone_on}

performed_not_refused :
    (trace : List ℕ) (m : Machine) (o : Operation) (parameter : ℕ) → refusal_in (performed trace m o parameter).end ≡ 0
unfolding executed called returned
performed_not_refused trace m Execute parameter =
    ⊎_elim (λ (y : is_outcome (taken_at trace m.place) ≡ true). rw y)
    (λ (n : is_outcome (taken_at trace m.place) ≡ false). rw n)
    (yes_or_no (is_outcome (taken_at trace m.place)))
performed_not_refused trace m Jump parameter = refl
performed_not_refused trace m Call parameter =
    ⊎_elim (λ (y : leb 4 m.depth ≡ true). rw y) (λ (n : leb 4 m.depth ≡ false). rw n)
    (yes_or_no (leb 4 m.depth))
performed_not_refused trace m Return parameter =
    ⊎_elim (λ (y : eqb m.depth 0 ≡ true). rw y) (λ (n : eqb m.depth 0 ≡ false). rw n)
    (yes_or_no (eqb m.depth 0))
performed_not_refused trace m Halt parameter = refl
performed_not_refused trace m Flag parameter = refl
performed_not_refused trace m Unknown parameter = refl

carried_not_refused :
    (trace : List ℕ) (m : Machine) (word parameter : ℕ) → refusal_in (carried_out trace m word parameter).end ≡ 0
unfolding carried_out
carried_not_refused trace m word parameter =
    ⊎_elim
    (λ (y : is_due (operation_of word) word m.flags m.last ≡ true).
    rw y (performed_not_refused trace m (operation_of word) parameter))
    (λ (n : is_due (operation_of word) word m.flags m.last ≡ false). rw n)
    (yes_or_no (is_due (operation_of word) word m.flags m.last))

step_not_refused : (ram trace : List ℕ) (m : Machine) → refusal_in (step_of ram trace m).end ≡ 0
unfolding step_of
step_not_refused ram trace m =
    ⊎_elim
    (λ (y : has_pair ram m.pointer ≡ true).
    rw y (carried_not_refused trace m (get_or ram m.pointer 0) (get_or ram (m.pointer + 1) 0)))
    (λ (n : has_pair ram m.pointer ≡ false). rw n)
    (yes_or_no (has_pair ram m.pointer))

advance_not_refused :
    (ram trace : List ℕ) (r : Ran) → refusal_in r.end ≡ 0 → refusal_in (advanced ram trace r).end ≡ 0
unfolding advanced stepped
advance_not_refused ram trace r h =
    ⊎_elim (λ (y : is_going r.end ≡ true). rw y (step_not_refused ram trace r.machine))
    (λ (n : is_going r.end ≡ false). rw n h)
    (yes_or_no (is_going r.end))

from_not_refused :
    (ram trace : List ℕ) (r : Ran) (n : ℕ) → refusal_in r.end ≡ 0 → refusal_in (run_from ram trace r n).end ≡ 0
unfolding run_from
from_not_refused ram trace r zero h = h
from_not_refused ram trace r (suc n) h =
    advance_not_refused ram trace (run_from ram trace r n) (from_not_refused ram trace r n h)

pub run_not_refused :
    (ram trace : List ℕ) (m : Machine) (n : ℕ) → refusal_in (run_for ram trace m n).end ≡ 0
unfolding begun
run_not_refused ram trace m n = from_not_refused ram trace (begun m) n refl

-- ---- the entry points

-- a run where no number refuses, else its refusal
pub run_or_refusal : (number : ℕ) (r : Ran) → refusal_in r.end ≡ 0 → refusal_in (cond (eqb number 0) r (not_run number)).end ≡ number
unfolding not_run
run_or_refusal number r h =
    ⊎_elim (λ (z : number ≡ 0). rw (eq-eqb number 0 z) (h ∙ sym z))
    (λ (m : number ≡ 0 → ⊥). rw (ne_eqb number 0 m))
    (eq_or_ne number 0)

pub started_number :
    (ram trace : List ℕ) (start flags budget : ℕ) →
    refusal_in (started_at ram trace start flags budget).end ≡ start_refusal ram start
unfolding started_at
started_number ram trace start flags budget =
    run_or_refusal (start_refusal ram start) (run_for ram trace (machine_at start (flags % 256)) budget)
    (run_not_refused ram trace (machine_at start (flags % 256)) budget)

pub gone_number :
    (ram trace : List ℕ) (m : Machine) (budget : ℕ) → refusal_in (gone_on ram trace m budget).end ≡ go_on_refusal ram
unfolding gone_on
gone_number ram trace m budget =
    run_or_refusal (go_on_refusal ram) (run_for ram trace m budget) (run_not_refused ram trace m budget)

pub started_refused :
    (ram trace : List ℕ) (start flags budget : ℕ) →
    (start_refusal ram start ≡ 0 → ⊥) →
    started_at ram trace start flags budget ≡ not_run (start_refusal ram start)
unfolding started_at
started_refused ram trace start flags budget m = rw (ne_eqb (start_refusal ram start) 0 m)

pub gone_refused :
    (ram trace : List ℕ) (m : Machine) (budget : ℕ) →
    (go_on_refusal ram ≡ 0 → ⊥) →
    gone_on ram trace m budget ≡ not_run (go_on_refusal ram)
unfolding gone_on
gone_refused ram trace m budget h = rw (ne_eqb (go_on_refusal ram) 0 h)
