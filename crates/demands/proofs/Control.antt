-- Demand 1 of the bus controller, proved.
use Prim.Native.Nat.{ℕ, ◌%◌}
use mathlib.Core.Path.{◌≡◌, refl, sym, ◌∙◌}
use mathlib.Core.List.{List, [], ◌∷◌}
use borrow.Author.Tests.{ne_eqb}
use Rattle.control.specs.declared.machine.Machine.{Machine}
use Rattle.control.specs.declared.run.Ran.{Ran}
use Rattle.control.specs.Machine.{machine_at, refusal_in}
use Rattle.control.specs.Run.{run_for}
use Rattle.control.specs.Start.{not_run, start_tests, start_refusal, started_at, go_on_tests, go_on_refusal, gone_on}
use Rattle.control.proofs.start
use Rattle.control.proofs.Ends.{run_not_refused}
use Rattle.c_words.specs.Over.{over, zeros_over}
use Rattle.c_control.specs.Numbers.{machine_from, machine_left, ran_numbers, ran_length}
use Rattle.c_control.proofs.runs
use Rattle.c_control.proofs.Back.{started_back, gone_back}
use Rattle.demands.specs.First.{AnsweredOnly}
use Rattle.demands.specs.Control.{Demand}
use Rattle.demands.proofs.Answered.{by_number}
use Rattle.demands.proofs.Exports.{exported}

started_answered :
    (ram trace : List ℕ) (start flags budget : ℕ) (back : Ran) →
    back ≡ started_at ram trace start flags budget →
    AnsweredOnly (start_tests ram start) (refusal_in back.end) back not_run
unfolding started_at start_refusal not_run
started_answered ram trace start flags budget back e =
    by_number (start_tests ram start) (λ r. refusal_in r.end) back
    (run_for ram trace (machine_at start (flags % 256)) budget) not_run refl refl
    (run_not_refused ram trace (machine_at start (flags % 256)) budget) (λ n. refl) e

gone_answered :
    (ram trace : List ℕ) (m : Machine) (budget : ℕ) (back : Ran) →
    back ≡ gone_on ram trace m budget →
    AnsweredOnly (go_on_tests ram) (refusal_in back.end) back not_run
unfolding gone_on go_on_refusal not_run
gone_answered ram trace m budget back e =
    by_number (go_on_tests ram) (λ r. refusal_in r.end) back (run_for ram trace m budget) not_run refl refl
    (run_not_refused ram trace m budget) (λ n. refl) e

-- what a refusal leaves in what is lent
run_zeros :
    (machine ran : List ℕ) (n : ℕ) → (n ≡ 0 → ⊥) →
    (machine_left machine (not_run n) ∷ over ran (ran_numbers (not_run n)) ∷ []) ≡ (machine ∷ zeros_over ran ran_length ∷ [])
unfolding machine_left ran_numbers not_run
run_zeros machine ran n m = rw (ne_eqb n 0 m)

pub controller : Demand
controller =
    record {
      start_at =
          record {
            any = λ κs given. tt;
            ends = start.start_at.Met.met;
            says =
                λ c.
                started_answered c.given.0.now c.given.1.0.now c.given.1.1.0 c.given.1.1.1.0
                c.given.1.1.1.1.0
                c.back
                c.allowed;
          };
      go_on =
          record {
            any = λ κs given. tt;
            ends = start.go_on.Met.met;
            says =
                λ c.
                gone_answered c.given.0.now c.given.1.0.now c.given.1.1.0 c.given.1.1.1.0 c.back
                c.allowed;
          };
      exported_start =
          record {
            any = λ κs given. tt;
            ends = runs.solkverva_control.Met.met;
            says =
                λ c.
                exported _ _ _ _ _ not_run _ _ _
                (started_answered c.given.0.now c.given.1.1.1.1.0.now c.given.1.0 c.given.1.1.0
                c.given.1.1.1.0 _ refl)
                (run_zeros c.given.1.1.1.1.1.0.now c.given.1.1.1.1.1.1.0.now)
                (λ r e. r.allowed ∙ λ i. started_at (e.0 i) (e.1.0 i) (e.1.1.0 i) (e.1.1.1.0 i) (e.1.1.1.1 i))
                c.allowed.0
                (λ i. c.allowed.1.0 i ∷ c.allowed.1.1 i ∷ []);
          };
      exported_go_on =
          record {
            any = λ κs given. tt;
            ends = runs.solkverva_control_on.Met.met;
            says =
                λ c.
                exported _ _ _ _ _ not_run _ _ _
                (gone_answered c.given.0.now c.given.1.1.0.now (machine_from c.given.1.1.1.0.now)
                c.given.1.0 _ refl)
                (run_zeros c.given.1.1.1.0.now c.given.1.1.1.1.0.now)
                (λ r e. r.allowed ∙ λ i. gone_on (e.0 i) (e.1.0 i) (e.1.1.0 i) (e.1.1.1 i))
                c.allowed.0
                (λ i. c.allowed.1.0 i ∷ c.allowed.1.1 i ∷ []);
          };
      left_by_start =
          λ c z room.
          rw c.allowed.1.0
          (started_back c.given.0.now c.given.1.1.1.1.0.now c.given.1.1.1.1.1.0.now
          c.given.1.0
          c.given.1.1.0
          c.given.1.1.1.0
          room
          (sym c.allowed.0 ∙ z));
      left_by_go_on =
          λ c z room.
          let lent = c.given.1.1.1.0.now in
          rw c.allowed.1.0
          (gone_back c.given.0.now c.given.1.1.0.now lent lent c.given.1.0 room
          (sym c.allowed.0 ∙ z));
    }
