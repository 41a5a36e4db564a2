-- "0 is done. No other case is refused." The number is 0 exactly when none of the tests holds, and n exactly when test
-- n is the first that holds; a refusal changes nothing, and an accepted message is its plan carried out.
use Prim.Native.Nat.{ℕ}
use mathlib.Core.Path.{◌≡◌, refl, sym, ◌∙◌}
use mathlib.Core.Logic.{◌↔◌, ⊎_elim}
use borrow.Author.Tests.{eq-eqb, ne_eqb}
use Rattle.words.specs.declared.settings.Settings.{Settings}
use Rattle.words.proofs.Basics.{eq_or_ne}
use Rattle.words.specs.Refusal.{NoneHolds, First}
use Rattle.words.proofs.Refusals.{first_zero, first_number}
use Rattle.memory.specs.State.{State}
use Rattle.message.specs.Heard.{Heard}
use Rattle.message.specs.Tests.{tests_for, refusal_for}
use Rattle.message.specs.Answer.{refused_with, accepted_with, answer_for}
use Rattle.message.specs.Message.{plan_for, carried_out, state_for, answer_of, step}

module _ (s : Settings) (h : Heard) (x : State) where
  abbrev number : ℕ
  number = refusal_for s h x

  -- 0 exactly when none holds
  pub message_done : (number ≡ 0) ↔ NoneHolds (tests_for s h x)
  unfolding refusal_for
  message_done = first_zero (tests_for s h x) refl

  -- n exactly when test n holds and none before it
  pub message_refused : (n : ℕ) → (n ≡ 0 → ⊥) → (number ≡ n) ↔ First (tests_for s h x) n
  unfolding refusal_for
  message_refused n m = first_number (tests_for s h x) n m

  -- "Result: the number, the rest zero"
  pub refused_answer : (number ≡ 0 → ⊥) → answer_of s h x ≡ refused_with number
  unfolding answer_of answer_for
  refused_answer m = rw (ne_eqb number 0 m)

  -- "RAM, reply and remembered state keep their contents."
  pub refused_state : (number ≡ 0 → ⊥) → step s h x ≡ x
  unfolding step state_for
  refused_state m = rw (ne_eqb number 0 m)

  pub accepted_answer : number ≡ 0 → answer_of s h x ≡ accepted_with (plan_for s h.value x)
  unfolding answer_of answer_for
  accepted_answer e = rw (eq-eqb number 0 e)

  pub accepted_state : number ≡ 0 → step s h x ≡ carried_out s (plan_for s h.value x) h.value x
  unfolding step state_for
  accepted_state e = rw (eq-eqb number 0 e)

  -- the answer tells the number
  pub number_told : (answer_of s h x).number ≡ number
  unfolding accepted_with refused_with
  number_told =
      ⊎_elim (λ e. rw (accepted_answer e) (sym e)) (λ m. rw (refused_answer m)) (eq_or_ne number 0)

  -- where the code stops with a number that the tests give, it has said and left what the definition says
  pub stopped : (n : ℕ) → number ≡ n → (n ≡ 0 → ⊥) → (refused_with n ≡ answer_of s h x) × (x ≡ step s h x)
  stopped n e m =
      let some : number ≡ 0 → ⊥ = λ z. m (sym e ∙ z) in
      (rw (← e) (sym (refused_answer some)), sym (refused_state some))
