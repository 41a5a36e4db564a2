-- What runs come to: added up, with a bigger budget, ended, and how many steps they took.
use Prim.Native.Nat.{ℕ, zero, suc, ◌+◌, ◌-◌, ◌≤◌}
use native.Mathlib.Omega.{arith}
use native.Mathlib.Nat.{add-zero, add-suc}
use native.Mathlib.Numerals.{add-one}
use mathlib.Core.Path.{◌≡◌, refl, sym, ap, ◌∙◌}
use mathlib.Core.Logic.{⊎_elim}
use mathlib.Core.Bool.{Bool, true, false, true≢false}
use mathlib.Core.List.{List}
use Rattle.words.specs.Bits.{bit_of}
use Rattle.words.proofs.Basics.{yes_or_no, not_both}
use Rattle.control.specs.declared.machine.Machine.{Machine}
use Rattle.control.specs.declared.machine.End.{End}
use Rattle.control.specs.declared.machine.End.TheVariants.{Budget, Halt, Bad, NoOutcome, Refused}
use Rattle.control.specs.declared.run.Ran.{Ran}
use Rattle.control.specs.Machine.{is_going, is_carried_out}
use Rattle.control.specs.Step.{step_of}
use Rattle.control.specs.Run.{begun, stepped, advanced, run_from, run_for}

add_most : (n : ℕ) (b : Bool) → n + bit_of b ≤ n + 1
add_most n true = omega arith
add_most n false = omega arith

-- one that goes on was carried out
going_counts : (e : End) (n : ℕ) → is_going e ≡ true → n + bit_of (is_carried_out e) ≡ n + 1
going_counts Budget n g = refl
going_counts Halt n g = refl
going_counts Bad n g = absurd (true≢false (sym g))
going_counts NoOutcome n g = absurd (true≢false (sym g))
going_counts (Refused k) n g = absurd (true≢false (sym g))

module _ (ram trace : List ℕ) where
  -- one step more
  pub run_more : (r : Ran) (n : ℕ) → run_from ram trace r (n + 1) ≡ advanced ram trace (run_from ram trace r n)
  unfolding run_from
  run_more r n = rw add-one

  -- a step of one that goes, and of one that has ended
  pub advance_going :
      (r : Ran) → is_going r.end ≡ true → advanced ram trace r ≡ stepped r (step_of ram trace r.machine)
  unfolding advanced
  advance_going r g = rw g

  pub advance_ended : (r : Ran) → is_going r.end ≡ false → advanced ram trace r ≡ r
  unfolding advanced
  advance_ended r g = rw g

  -- a run of n and then of k is a run of n + k
  pub run_add :
      (r : Ran) (n k : ℕ) → run_from ram trace r (n + k) ≡ run_from ram trace (run_from ram trace r n) k
  unfolding run_from
  run_add r n zero = rw add-zero
  run_add r n (suc k) = rw (add-suc, run_add r n k)

  -- one that has ended stays, whatever the budget
  pub run_ended : (r : Ran) (n : ℕ) → is_going r.end ≡ false → run_from ram trace r n ≡ r
  unfolding run_from
  run_ended r zero g = refl
  run_ended r (suc n) g = rw (run_ended r n g) (advance_ended r g)

  -- "A bigger budget gives the same answer wherever the smaller run ended by anything but its budget.": the whole result
  pub run_bigger :
      (r : Ran) (n k : ℕ) →
      is_going (run_from ram trace r n).end ≡ false →
      run_from ram trace r (n + k) ≡ run_from ram trace r n
  run_bigger r n k g = run_add r n k ∙ run_ended (run_from ram trace r n) k g

  pub run_at_least :
      (r : Ran) (n m : ℕ) →
      n ≤ m →
      is_going (run_from ram trace r n).end ≡ false →
      run_from ram trace r m ≡ run_from ram trace r n
  run_at_least r n m h g =
      let e : n + (m - n) ≡ m = omega arith in
      rw e at (run_bigger r n (m - n) g)

  -- ---- how many steps

  -- no step takes more than one
  advance_steps : (r : Ran) → (advanced ram trace r).steps ≤ r.steps + 1
  unfolding advanced stepped
  advance_steps r =
      ⊎_elim
      (λ (g : is_going r.end ≡ true). rw g (add_most r.steps (is_carried_out (step_of ram trace r.machine).end)))
      (λ (g : is_going r.end ≡ false). rw g (omega arith))
      (yes_or_no (is_going r.end))

  -- at most the budget
  pub steps_most : (r : Ran) (n : ℕ) → (run_from ram trace r n).steps ≤ r.steps + n
  unfolding run_from
  steps_most r zero = omega arith
  steps_most r (suc n) =
      let before = steps_most r n in
      let one = advance_steps (run_from ram trace r n) in
      omega (arith, before, one)

  -- ---- the loop of `run`: where n turns lead

  pub reached_steps : (m : Machine) (r : Ran) (n : ℕ) → r ≡ run_from ram trace (begun m) n → r.steps ≤ n
  unfolding begun
  reached_steps m r n e = let most = steps_most (begun m) n in rw e (omega arith)

  pub reached_next :
      (m : Machine) (r : Ran) (n : ℕ) →
      r ≡ run_from ram trace (begun m) n →
      is_going r.end ≡ true →
      stepped r (step_of ram trace r.machine) ≡ run_from ram trace (begun m) (n + 1)
  reached_next m r n e g = sym (advance_going r g) ∙ ap (advanced ram trace) e ∙ sym (run_more (begun m) n)

  pub reached_end :
      (m : Machine) (r : Ran) (n budget : ℕ) →
      r ≡ run_from ram trace (begun m) n →
      n ≤ budget →
      is_going r.end ≡ false →
      r ≡ run_for ram trace m budget
  reached_end m r n budget e h g = e ∙ sym (run_at_least (begun m) n budget h (rw e at g))

  -- ---- where the answer is "budget", it is the budget

  goes_steps :
      (r : Ran) →
      is_going (advanced ram trace r).end ≡ true →
      (is_going r.end ≡ true) × ((advanced ram trace r).steps ≡ r.steps + 1)
  unfolding advanced stepped
  goes_steps r h =
      ⊎_elim
      (λ (g : is_going r.end ≡ true). (g, rw g (going_counts (step_of ram trace r.machine).end r.steps (rw g at h))))
      (λ (g : is_going r.end ≡ false). absurd (not_both (is_going r.end) (rw g at h) g))
      (yes_or_no (is_going r.end))

  pub goes_spent :
      (r : Ran) (n : ℕ) → is_going (run_from ram trace r n).end ≡ true → (run_from ram trace r n).steps ≡ r.steps + n
  unfolding run_from
  goes_spent r zero g = omega arith
  goes_spent r (suc n) g =
      let one = goes_steps (run_from ram trace r n) g in
      let before = goes_spent r n one.0 in
      omega (arith, before, one.1)
