-- Any call, refused or not: words outside the cell's window, its lookup word, the active stack's block and the stack
-- pointer are never changed, nor any word of the reply behind those sent; windows and the stack's block stay.
use Prim.Native.Nat.{ℕ, ◌≤◌}
use native.Mathlib.Omega.{arith}
use mathlib.Core.Path.{◌≡◌, refl}
use mathlib.Core.Logic.{⊎_elim, inr}
use mathlib.Core.List.{List}
use lib.ListN.{length, get_or}
use borrow.Author.Tests.{ltb-false}
use Rattle.words.specs.declared.settings.Settings.{Settings}
use Rattle.words.specs.Number.{reply_room}
use Rattle.words.proofs.Basics.{eq_or_ne}
use Rattle.words.proofs.Refusals.{accepted}
use Rattle.memory.specs.Map.{lookup_place, stack_pointer_place}
use Rattle.memory.specs.State.{State}
use Rattle.cells.specs.Stack.{stack_window}
use Rattle.windows.proofs.Meets.{Outside}
use Rattle.lookup.specs.Target.{target_of}
use Rattle.writes.specs.Reply.{reply_words}
use Rattle.message.specs.Heard.{Heard}
use Rattle.message.specs.Tests.{tests_for, refusal_for}
use Rattle.message.specs.Message.{carried_out, step}
use Rattle.message.proofs.Sure.{accepted_sure}
use Rattle.message.proofs.Step.{after_made, deed_made, elsewhere, deed_for}
use Rattle.message.proofs.Kept.{Kept, message_keeps, nothing_changed}
use Rattle.message.proofs.Refusals.{accepted_state, refused_state}
use Rattle.writes.proofs.Replied.{reply_behind, sent_few}

-- the address is none that the message may change
pub record Elsewhere (ram : List ℕ) (s : Settings) (command a : ℕ) : Type 0 where
  pub window : Outside (target_of ram s command).window a
  pub lookup : a ≡ lookup_place s.area (target_of ram s command).number → ⊥
  pub stack : Outside (stack_window ram s) a
  pub pointer : a ≡ stack_pointer_place s.area → ⊥

module _ (s : Settings) (h : Heard) (x : State) where
  abbrev ram : List ℕ
  ram = x.ram

  pub only_these : (a : ℕ) → Elsewhere ram s h.value.command a → get_or (step s h x).ram a 0 ≡ get_or ram a 0
  unfolding carried_out
  only_these a o =
      ⊎_elim
      (λ (e : refusal_for s h x ≡ 0).
      rw (accepted_state s h x e, after_made s ram x.remembered h.value)
      (elsewhere ram s h.value (accepted_sure s h x e) a o.lookup (inr o.window) o.stack o.pointer))
      (λ (n : refusal_for s h x ≡ 0 → ⊥). rw (refused_state s h x n))
      (eq_or_ne (refusal_for s h x) 0)

  pub all_kept : Kept s ram (step s h x).ram
  unfolding carried_out
  all_kept =
      ⊎_elim
      (λ (e : refusal_for s h x ≡ 0).
      rw (accepted_state s h x e, after_made s ram x.remembered h.value)
      (message_keeps ram s h.value (accepted_sure s h x e)))
      (λ (n : refusal_for s h x ≡ 0 → ⊥). rw (refused_state s h x n) (nothing_changed s ram))
      (eq_or_ne (refusal_for s h x) 0)

  pub only_front :
      (i : ℕ) →
      length (reply_words ram (deed_for ram s h.value)) ≤ i →
      get_or (step s h x).reply i 0 ≡ get_or x.reply i 0
  unfolding carried_out refusal_for
  only_front i l =
      ⊎_elim
      (λ (e : refusal_for s h x ≡ 0).
      let room = ltb-false (length x.reply) 33 (accepted (tests_for s h x) refl e reply_room) in
      rw (accepted_state s h x e, deed_made s ram x.remembered h.value)
      (reply_behind ram (deed_for ram s h.value) x.reply
      (omega (arith, room, sent_few s (target_of ram s h.value.command) h.value))
      i
      l))
      (λ (n : refusal_for s h x ≡ 0 → ⊥). rw (refused_state s h x n))
      (eq_or_ne (refusal_for s h x) 0)
