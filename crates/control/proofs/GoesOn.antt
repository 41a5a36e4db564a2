-- Going on: a run from the machine that another left, and both as one run.
use Prim.Native.Nat.{ℕ, zero, suc, ◌+◌, ◌%◌}
use native.Mathlib.Omega.{arith}
use mathlib.Core.Path.{◌≡◌, refl, sym, ap, ◌∙◌}
use mathlib.Core.Logic.{⊎_elim}
use mathlib.Core.Bool.{true, false, true≢false}
use mathlib.Core.List.{List}
use lib.ListN.{length}
use lib.Dec.{eqb}
use Rattle.words.specs.Bits.{bit_of}
use Rattle.words.specs.Refusal.{first_of}
use Rattle.words.proofs.Basics.{yes_or_no}
use Rattle.memory.specs.Map.{ram_refused}
use Rattle.control.specs.declared.machine.Machine.{Machine}
use Rattle.control.specs.declared.machine.End.{End}
use Rattle.control.specs.declared.machine.End.TheVariants.{Budget, Halt, Bad, NoOutcome, Refused}
use Rattle.control.specs.declared.run.Ran.{Ran}
use Rattle.control.specs.Machine.{is_going, is_carried_out, machine_at}
use Rattle.control.specs.Step.{step_of}
use Rattle.control.specs.Run.{begun, stepped, advanced, run_from, run_for}
use Rattle.control.specs.Start.{not_run, start_refusal, started_at, go_on_refusal, gone_on}
use Rattle.control.proofs.Runs.{run_add, goes_spent}

-- the same run behind n steps
abbrev pub behind : ℕ → Ran → Ran
behind n r = record { end = r.end; steps = n + r.steps; machine = r.machine }

going_budget : (e : End) → is_going e ≡ true → e ≡ Budget
going_budget Budget g = refl
going_budget Halt g = absurd (true≢false (sym g))
going_budget Bad g = absurd (true≢false (sym g))
going_budget NoOutcome g = absurd (true≢false (sym g))
going_budget (Refused k) g = absurd (true≢false (sym g))

module _ (ram trace : List ℕ) where
  advance_behind : (n : ℕ) (r : Ran) → advanced ram trace (behind n r) ≡ behind n (advanced ram trace r)
  unfolding advanced stepped
  advance_behind n r =
      let next = step_of ram trace r.machine in
      let sum : n + r.steps + bit_of (is_carried_out next.end) ≡ n + (r.steps + bit_of (is_carried_out next.end)) =
      omega arith in
      ⊎_elim
      (λ (y : is_going r.end ≡ true). rw y (λ i. record { end = next.end; steps = sum i; machine = next.machine }))
      (λ (z : is_going r.end ≡ false). rw z)
      (yes_or_no (is_going r.end))

  run_behind : (n : ℕ) (r : Ran) (k : ℕ) → run_from ram trace (behind n r) k ≡ behind n (run_from ram trace r k)
  unfolding run_from
  run_behind n r zero = refl
  run_behind n r (suc k) = rw (run_behind n r k) (advance_behind n (run_from ram trace r k))

  -- one that its budget ended is its machine, begun behind the steps that it took
  ended_budget :
      (m : Machine) (n : ℕ) →
      is_going (run_for ram trace m n).end ≡ true →
      run_for ram trace m n ≡ behind n (begun (run_for ram trace m n).machine)
  unfolding begun
  ended_budget m n g =
      let r = run_for ram trace m n in
      let spent : r.steps ≡ n + 0 = omega (arith, goes_spent ram trace (begun m) n g) in
      λ i. record { end = going_budget r.end g i; steps = spent i; machine = r.machine }

  -- a run that its budget n ended, and then one of k from the machine that it left, are a run of n + k
  pub run_on :
      (m : Machine) (n k : ℕ) →
      is_going (run_for ram trace m n).end ≡ true →
      run_for ram trace m (n + k) ≡ behind n (run_for ram trace (run_for ram trace m n).machine k)
  run_on m n k g =
      run_add ram trace (begun m) n k
      ∙ ap (λ (r : Ran). run_from ram trace r k) (ended_budget m n g)
      ∙ run_behind n (begun (run_for ram trace m n).machine) k

-- ---- the entry points, where its budget ended the first run

started_allowed : (ram : List ℕ) (start : ℕ) → eqb (start_refusal ram start) 0 ≡ true → eqb (go_on_refusal ram) 0 ≡ true
unfolding start_refusal go_on_refusal first_of
started_allowed ram start h =
    ⊎_elim (λ (y : ram_refused (length ram) ≡ true). absurd (true≢false (sym (rw y at h))))
    (λ (z : ram_refused (length ram) ≡ false). rw z)
    (yes_or_no (ram_refused (length ram)))

pub started_on :
    (ram trace : List ℕ) (start flags n k : ℕ) →
    is_going (started_at ram trace start flags n).end ≡ true →
    started_at ram trace start flags (n + k)
    ≡ behind n (gone_on ram trace (started_at ram trace start flags n).machine k)
unfolding started_at gone_on not_run
started_on ram trace start flags n k g =
    ⊎_elim
    (λ (y : eqb (start_refusal ram start) 0 ≡ true).
    rw (y, started_allowed ram start y) (run_on ram trace (machine_at start (flags % 256)) n k (rw y at g)))
    (λ (z : eqb (start_refusal ram start) 0 ≡ false). absurd (true≢false (sym (rw z at g))))
    (yes_or_no (eqb (start_refusal ram start) 0))

pub gone_on_lem :
    (ram trace : List ℕ) (m : Machine) (n k : ℕ) →
    is_going (gone_on ram trace m n).end ≡ true →
    gone_on ram trace m (n + k) ≡ behind n (gone_on ram trace (gone_on ram trace m n).machine k)
unfolding gone_on not_run
gone_on_lem ram trace m n k g =
    ⊎_elim
    (λ (y : eqb (go_on_refusal ram) 0 ≡ true). rw y (run_on ram trace m n k (rw y at g)))
    (λ (z : eqb (go_on_refusal ram) 0 ≡ false). absurd (true≢false (sym (rw z at g))))
    (yes_or_no (eqb (go_on_refusal ram) 0))
