-- A replay and a run: what stands in the reply buffer plays no part in what a record writes, so RAM and what is
-- remembered are the run's.
use Prim.Native.Nat.{ℕ}
use mathlib.Core.Path.{◌≡◌, ◌∙◌}
use mathlib.Core.Logic.{⊎_elim}
use mathlib.Core.List.{List, [], ◌∷◌}
use lib.ListN.{length}
use Rattle.words.specs.declared.settings.Settings.{Settings}
use Rattle.words.proofs.Basics.{eq_or_ne}
use Rattle.records.specs.declared.value.Record.{Record}
use Rattle.memory.specs.State.{State}
use Rattle.memory.specs.Writes.{apply_writes}
use Rattle.memory.proofs.Writes.{length_apply}
use Rattle.message.specs.Heard.{Heard}
use Rattle.message.specs.Tests.{refusal_for}
use Rattle.message.specs.Message.{plan_for, carried_out, step}
use Rattle.message.specs.Run.{run}
use Rattle.message.proofs.Refusals.{refused_state, accepted_state}
use borrow.Author.Tests.{eq-eqb, ne_eqb}
use Rattle.writes.specs.declared.part.Part.{Part}
use Rattle.writes.specs.Asked.{as_write}
use Rattle.who.specs.Next.{list_in, writes_in}
use Rattle.who.specs.Replay.{Replay, terminal_in, replay_record, replay}

pub record Alike (w : Replay) (x : State) : Type 0 where
  pub ram : w.ram ≡ x.ram
  pub remembered : w.at.remembered ≡ x.remembered
  pub room : length x.reply ≡ 33

-- a record's list of writes is what it does to RAM, refused or not
pub writes_made : (s : Settings) (h : Heard) (x : State) → (step s h x).ram ≡ apply_writes (writes_in s h x) x.ram
unfolding list_in carried_out apply_writes
writes_made s h x =
    ⊎_elim
    (λ (e : refusal_for s h x ≡ 0). rw (accepted_state s h x e, eq-eqb (refusal_for s h x) 0 e))
    (λ (m : refusal_for s h x ≡ 0 → ⊥). rw (refused_state s h x m, ne_eqb (refusal_for s h x) 0 m))
    (eq_or_ne (refusal_for s h x) 0)

-- and it keeps the reply buffer's length
pub reply_length : (s : Settings) (h : Heard) (x : State) → length (step s h x).reply ≡ length x.reply
unfolding carried_out
reply_length s h x =
    ⊎_elim
    (λ (e : refusal_for s h x ≡ 0). rw (accepted_state s h x e, length_apply))
    (λ (m : refusal_for s h x ≡ 0 → ⊥). rw (refused_state s h x m))
    (eq_or_ne (refusal_for s h x) 0)

module _ (s : Settings) (w : Replay) (x : State) (k : Alike w x) where
  refusal_alike : (h : Heard) → refusal_for s h (terminal_in w) ≡ refusal_for s h x
  unfolding refusal_for
  refusal_alike h = rw (k.ram, k.room)

  pub plan_alike : (v : Record) → plan_for s v (terminal_in w) ≡ plan_for s v x
  plan_alike v = rw (k.ram, k.remembered)

  pub list_alike : {A : Type 0} (ask : ℕ → ℕ → Part → A) (h : Heard) → list_in ask s h (terminal_in w) ≡ list_in ask s h x
  unfolding list_in
  list_alike ask h = rw (refusal_alike h, plan_alike h.value)

  remembered_alike : (h : Heard) → (step s h (terminal_in w)).remembered ≡ (step s h x).remembered
  unfolding carried_out
  remembered_alike h =
      ⊎_elim
      (λ (e : refusal_for s h x ≡ 0).
      rw (accepted_state s h (terminal_in w) (refusal_alike h ∙ e), accepted_state s h x e, plan_alike h.value))
      (λ (m : refusal_for s h x ≡ 0 → ⊥).
      rw (refused_state s h (terminal_in w) (rw (refusal_alike h) m), refused_state s h x m) k.remembered)
      (eq_or_ne (refusal_for s h x) 0)

  pub record_alike : (a : ℕ) (h : Heard) → Alike (replay_record s a h w) (step s h x)
  unfolding replay_record
  record_alike a h =
      record {
        ram = rw (writes_made s h (terminal_in w), writes_made s h x, list_alike as_write h, k.ram);
        remembered = remembered_alike h;
        room = reply_length s h x ∙ k.room;
      }

pub replay_alike :
    (s : Settings) (a : ℕ) (hs : List Heard) (w : Replay) (x : State) → Alike w x → Alike (replay s a hs w) (run s hs x)
unfolding replay run
replay_alike s a [] w x k = k
replay_alike s a (h ∷ hs) w x k = replay_alike s a hs (replay_record s a h w) (step s h x) (record_alike s w x k a h)
