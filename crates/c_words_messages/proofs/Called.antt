-- What the code of a call hands back is what the definition says, whether bytes or a value were heard.
use Prim.Native.Nat.{ℕ}
use mathlib.Core.Path.{◌≡◌}
use mathlib.Core.Logic.{⊎_elim}
use mathlib.Core.Bool.{cond}
use mathlib.Core.List.{List}
use lib.Dec.{eqb}
use borrow.Author.Tests.{eq-eqb, ne_eqb}
use Rattle.words.specs.declared.settings.Settings.{Settings}
use Rattle.words.proofs.Basics.{eq_or_ne}
use Rattle.message.specs.declared.perform.Performed.{Performed}
use Rattle.message.specs.Heard.{Heard}
use Rattle.message.specs.Tests.{refusal_for}
use Rattle.message.specs.Message.{carried_out, answer_of, step}
use Rattle.message.specs.Performed.{performed_with, performed_of, answer_in}
use Rattle.message.proofs.Refusals.{accepted_state, number_told}
use Rattle.message.proofs.Performing.{answer_told}
use Rattle.c_words.specs.Over.{over}
use Rattle.c_words.specs.Setup.{remembered_from, remembered_words}
use Rattle.c_words_messages.specs.Answers.{answer_words, remembered_over}
use Rattle.c_words_messages.specs.Call.{Lent, lent_of, state_in, handed_back, call_number, lent_after}

module _ (s : Settings) (h : Heard) (l : Lent) where
  -- what is remembered, put over what is lent where the message is done
  remembered_put :
      remembered_over (performed_of s h (state_in l)) l.remembered
      ≡ cond (eqb (answer_of s h (state_in l)).number 0)
      (over l.remembered (remembered_words (step s h (state_in l)).remembered))
      l.remembered
  unfolding performed_of performed_with remembered_over carried_out
  remembered_put =
      rw (number_told s h (state_in l))
      (⊎_elim
      (λ (z : refusal_for s h (state_in l) ≡ 0). rw (eq-eqb (refusal_for s h (state_in l)) 0 z, accepted_state s h (state_in l) z))
      (λ (m : refusal_for s h (state_in l) ≡ 0 → ⊥). rw (ne_eqb (refusal_for s h (state_in l)) 0 m))
      (eq_or_ne (refusal_for s h (state_in l)) 0))

  module _
      (r : Performed)
      (ram reply remembered answer : List ℕ)
      (performed : r ≡ performed_of s h (state_in l))
    where
      pub called_number : (n : ℕ) → n ≡ (answer_in r).number → n ≡ call_number s h l
      unfolding call_number
      called_number n e =
          let told = answer_told s h (remembered_from l.remembered) l.ram l.reply in
          rw (e, performed, told) (number_told s h (state_in l))

      pub called_lent :
          ram ≡ (step s h (state_in l)).ram →
          reply ≡ (step s h (state_in l)).reply →
          remembered ≡ remembered_over r l.remembered →
          answer ≡ over l.answer (answer_words (answer_in r)) →
          lent_of ram reply remembered answer ≡ lent_after s h l
      unfolding lent_after handed_back
      called_lent left sent f g =
          let told = answer_told s h (remembered_from l.remembered) l.ram l.reply in
          rw (left, sent, f, g, performed, told, remembered_put)
