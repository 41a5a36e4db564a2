-- The whole-area check in two steps: 1, 3 and 8 first, and 9 only where none of them is answered.
use Prim.Native.Nat.{ℕ, ◌≤◌, ◌<◌}
use native.Mathlib.Omega.{arith}
use mathlib.Core.Path.{◌≡◌, refl, sym, ◌∙◌}
use mathlib.Core.Logic.{⊎_elim}
use mathlib.Core.Bool.{true, false, not, cond}
use mathlib.Core.List.{List, [], ◌∷◌}
use lib.ListN.{length}
use lib.Dec.{eqb}
use borrow.Author.Tests.{eqb-true, ne_eqb, not-false}
use Rattle.words.specs.declared.settings.Settings.{Settings}
use Rattle.words.specs.Number.{ram_length, bad_settings, unsound_stack, unsound_cell}
use Rattle.words.specs.Refusal.{◌when◌, first_of}
use Rattle.words.specs.Settings.{settings_refused}
use Rattle.words.proofs.Basics.{yes_or_no}
use Rattle.words.proofs.Refusals.{accepted, first_stops, first_passes, first_at_most}
use Rattle.memory.specs.Map.{ram_refused}
use Rattle.cells.specs.Stack.{stack_sound}
use Rattle.cells.proofs.Block.{StackSound, stack_sound_facts, stack_facts_sound}
use Rattle.area.specs.Area.{lowest_unsound, ground_tests, area_refusal, ground_refusal, check_area}

-- 1, 3 and 8 do not hold
pub record AreaAccepted (ram : List ℕ) (s : Settings) : Type 0 where
  pub ram_accepted : ram_refused (length ram) ≡ false
  pub settings_accepted : settings_refused s ≡ false
  pub stack_sound_lem : StackSound ram s

module _ (ram : List ℕ) (s : Settings) where
  pub ground_small : ground_refusal ram s ≤ 8
  unfolding ground_refusal
  ground_small = first_at_most 8 (ground_tests ram s) refl

  pub ground_stops : (ground_refusal ram s ≡ 0 → ⊥) → area_refusal ram s ≡ ground_refusal ram s
  unfolding ground_refusal area_refusal
  ground_stops h =
      first_stops (ground_tests ram s) (unsound_cell when not (eqb (lowest_unsound ram s) 0) ∷ []) refl h

  pub ground_passes : ground_refusal ram s ≡ 0 → area_refusal ram s ≡ cond (not (eqb (lowest_unsound ram s) 0)) unsound_cell 0
  unfolding ground_refusal area_refusal first_of
  ground_passes e =
      first_passes (ground_tests ram s) (unsound_cell when not (eqb (lowest_unsound ram s) 0) ∷ []) refl e

  pub ground_accepted : ground_refusal ram s ≡ 0 → AreaAccepted ram s
  unfolding ground_refusal
  ground_accepted e =
      let a = accepted (ground_tests ram s) refl e in
      record {
        ram_accepted = a ram_length;
        settings_accepted = a bad_settings;
        stack_sound_lem = stack_sound_facts ram s (not-false (stack_sound ram s) (a unsound_stack));
      }

  pub accepted_ground : AreaAccepted ram s → ground_refusal ram s ≡ 0
  unfolding ground_refusal first_of
  accepted_ground f =
      rw (f.ram_accepted, f.settings_accepted, stack_facts_sound ram s f.stack_sound_lem)

  -- a number found before is the answer, and names no cell
  pub before_refused : (ground_refusal ram s ≡ 0 → ⊥) → record { number = ground_refusal ram s; cell = 0 } ≡ check_area ram s
  unfolding check_area
  before_refused h =
      let other : ground_refusal ram s ≡ unsound_cell → ⊥ = λ e. omega (arith, ground_small) in
      rw (ground_stops h, ne_eqb (ground_refusal ram s) unsound_cell other)

  -- and else the answer is 9 with the cell, or 0
  pub before_none :
      ground_refusal ram s ≡ 0 →
      record { number = cond (eqb (lowest_unsound ram s) 0) 0 unsound_cell; cell = lowest_unsound ram s } ≡ check_area ram s
  unfolding check_area
  before_none h =
      rw (ground_passes h)
      (⊎_elim
      (λ (e : eqb (lowest_unsound ram s) 0 ≡ true). rw (e, eqb-true (lowest_unsound ram s) 0 e))
      (λ (e : eqb (lowest_unsound ram s) 0 ≡ false). rw e)
      (yes_or_no (eqb (lowest_unsound ram s) 0)))

-- as the code asks
module _ (ram : List ℕ) (s : Settings) (n : ℕ) (e : n ≡ ground_refusal ram s) where
  pub told_before : (n ≡ 0 → ⊥) → record { number = n; cell = 0 } ≡ check_area ram s
  told_before h = rw e (before_refused ram s (λ z. h (e ∙ z)))

  pub told_fine : n ≡ 0 → lowest_unsound ram s ≡ 0 → record { number = 0; cell = 0 } ≡ check_area ram s
  told_fine z l = rw l at (before_none ram s (sym e ∙ z))

  pub told_unsound :
      (cell : ℕ) → n ≡ 0 → (0 < cell) × (lowest_unsound ram s ≡ cell) → record { number = 9; cell = cell } ≡ check_area ram s
  told_unsound cell z f =
      let some : lowest_unsound ram s ≡ 0 → ⊥ = λ w. omega arith in
      rw (← f.1) (rw (ne_eqb (lowest_unsound ram s) 0 some) at (before_none ram s (sym e ∙ z)))
