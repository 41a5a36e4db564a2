-- What is answered of what a cell and the stack are like, from what the contracts say.
use Prim.Native.Nat.{ℕ}
use mathlib.Core.Path.{◌≡◌, refl}
use mathlib.Core.List.{List}
use lib.ListN.{length}
use Rattle.words.specs.declared.settings.Settings.{Settings}
use Rattle.area.specs.Area.{cell_numbered}
use Rattle.soundness.specs.declared.cell.CellDescription.{CellDescription}
use Rattle.soundness.specs.declared.stack.StackDescription.{StackDescription}
use Rattle.soundness.specs.Described.{given_tests, given_refusal, described_cell, no_cell, cell_description, described_stack, no_stack, stack_description}
use Rattle.demands.specs.First.{AnsweredOnly}
use Rattle.demands.proofs.Answered.{by_number}

module _ (ram : List ℕ) (s : Settings) where
  pub cell_described :
      (cell : ℕ) (back : CellDescription) →
      back ≡ cell_description ram s cell →
      AnsweredOnly (given_tests (length ram) s) back.number back no_cell
  unfolding cell_description given_refusal described_cell no_cell
  cell_described cell back e =
      by_number (given_tests (length ram) s) (λ d. d.number) back (described_cell ram s cell (cell_numbered ram s cell))
      no_cell
      refl refl refl (λ n. refl) e

  pub stack_described :
      (back : StackDescription) →
      back ≡ stack_description ram s →
      AnsweredOnly (given_tests (length ram) s) back.number back no_stack
  unfolding stack_description given_refusal described_stack no_stack
  stack_described back e =
      by_number (given_tests (length ram) s) (λ d. d.number) back (described_stack ram s) no_stack
      refl refl refl (λ n. refl) e
