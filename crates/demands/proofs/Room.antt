-- What a message leaves in RAM, what is remembered and what it shows do not depend on what the reply buffer held, as long
-- as there is room for a reply.
use Prim.Native.Nat.{ℕ, ◌≤◌}
use mathlib.Core.Path.{◌≡◌, ap, ◌∙◌}
use mathlib.Core.Logic.{⊎_elim}
use mathlib.Core.List.{List}
use lib.ListN.{length}
use borrow.Author.Tests.{le-ltb, eq-eqb, ne_eqb}
use Rattle.words.specs.declared.settings.Settings.{Settings}
use Rattle.words.specs.declared.remembered.Remembered.{Remembered}
use Rattle.words.proofs.Basics.{eq_or_ne}
use Rattle.memory.specs.State.{State, state_of}
use Rattle.memory.proofs.Writes.{length_apply}
use Rattle.writes.specs.Reply.{reply_writes}
use Rattle.message.specs.Heard.{Heard}
use Rattle.message.specs.Tests.{refusal_for}
use Rattle.message.specs.Message.{plan_for, carried_out, state_for, answer_of, step}
use Rattle.message.specs.Answer.{answer_for}
use Rattle.message.specs.Run.{effect_of}

-- two states with the same RAM and the same remembered state, and room for a reply in each
pub record Alike (x y : State) : Type 0 where
  pub ram : x.ram ≡ y.ram
  pub remembered : x.remembered ≡ y.remembered
  pub room : 33 ≤ length x.reply
  pub other_room : 33 ≤ length y.reply

module _ (s : Settings) (h : Heard) (ram reply reply' : List ℕ) (m : Remembered) (l : 33 ≤ length reply) (k : 33 ≤ length reply') where
  abbrev x : State
  x = state_of ram reply m

  abbrev y : State
  y = state_of ram reply' m

  same_number : refusal_for s h x ≡ refusal_for s h y
  unfolding refusal_for
  same_number = rw (le-ltb (length reply) 33 l, le-ltb (length reply') 33 k)

  same_ram : (step s h x).ram ≡ (step s h y).ram
  unfolding step state_for carried_out
  same_ram =
      rw same_number
      (⊎_elim (λ (z : refusal_for s h y ≡ 0). rw (eq-eqb (refusal_for s h y) 0 z))
      (λ (n : refusal_for s h y ≡ 0 → ⊥). rw (ne_eqb (refusal_for s h y) 0 n))
      (eq_or_ne (refusal_for s h y) 0))

  same_remembered : (step s h x).remembered ≡ (step s h y).remembered
  unfolding step state_for carried_out
  same_remembered =
      rw same_number
      (⊎_elim (λ (z : refusal_for s h y ≡ 0). rw (eq-eqb (refusal_for s h y) 0 z))
      (λ (n : refusal_for s h y ≡ 0 → ⊥). rw (ne_eqb (refusal_for s h y) 0 n))
      (eq_or_ne (refusal_for s h y) 0))

  same_effect : effect_of s h x ≡ effect_of s h y
  unfolding effect_of answer_of answer_for
  same_effect = rw same_number

-- the reply buffer keeps its length
pub room_kept : (s : Settings) (h : Heard) (x : State) → length (step s h x).reply ≡ length x.reply
unfolding step state_for carried_out
room_kept s h x =
    ⊎_elim
    (λ (z : refusal_for s h x ≡ 0).
    rw (eq-eqb (refusal_for s h x) 0 z) (length_apply (reply_writes x.ram (plan_for s h.value x).deed) x.reply))
    (λ (n : refusal_for s h x ≡ 0 → ⊥). rw (ne_eqb (refusal_for s h x) 0 n))
    (eq_or_ne (refusal_for s h x) 0)

module _ (s : Settings) (h : Heard) (x y : State) (a : Alike x y) where
  beside : x ≡ state_of y.ram x.reply y.remembered
  beside = λ i. record { ram = a.ram i; reply = x.reply; remembered = a.remembered i }

  -- alike states stay alike after the same message
  pub alike_next : Alike (step s h x) (step s h y)
  alike_next =
      record {
        ram =
            ap (λ (z : State). (step s h z).ram) beside
            ∙ same_ram s h y.ram x.reply y.reply y.remembered a.room a.other_room;
        remembered =
            ap (λ (z : State). (step s h z).remembered) beside
            ∙ same_remembered s h y.ram x.reply y.reply y.remembered a.room a.other_room;
        room = rw (room_kept s h x) a.room;
        other_room = rw (room_kept s h y) a.other_room;
      }

  pub alike_effect : effect_of s h x ≡ effect_of s h y
  alike_effect =
      ap (λ (z : State). effect_of s h z) beside
      ∙ same_effect s h y.ram x.reply y.reply y.remembered a.room a.other_room
