-- One record of a replay, from what was taken of it.
use Rattle.std.proofs.Common.{◌≡◌, ℕ, ◌<◌, ◌≤◌, List, sym, ◌∙◌, arith, eq-eqb, ne_eqb}
use Rattle.words.specs.declared.settings.Settings.{Settings}
use Rattle.words.specs.declared.remembered.Remembered.{Remembered}
use Rattle.records.specs.declared.value.Record.{Record}
use Rattle.memory.specs.State.{State}
use Rattle.cells.proofs.Sizes.{window_offset, window_room}
use Rattle.lookup.specs.Target.{cell_for, target_of}
use Rattle.plan.specs.Deed.{deed_with, deed_of}
use Rattle.plan.proofs.Reach.{deed_stored}
use Rattle.plan.specs.declared.plan.Plan.{Plan}
use Rattle.plan.specs.Plan.{plan_with, plan_of}
use Rattle.message.specs.Heard.{Heard}
use Rattle.message.specs.Tests.{refusal_for}
use Rattle.message.specs.Message.{plan_for, carried_out, step}
use Rattle.message.proofs.Refusals.{refused_state, accepted_state}
use Rattle.message.proofs.Step.{target_sized}
use Rattle.trace.specs.Walk.{next_number}
use Rattle.message.specs.declared.perform.Performed.{Performed}
use Rattle.message.specs.declared.perform.Performed.TheVariants.{Refused, Done}
use Rattle.message.specs.Performed.{performed_of}
use Rattle.who_origin.specs.declared.origin.Who.{Who}
use Rattle.who_origin.specs.Origin.{last_said}
use Rattle.who.specs.Next.{list_in, who_next}
use Rattle.who_origin.specs.Placed.{who_wrote}
use Rattle.who.specs.Replay.{Replay, replay_of, terminal_in, replay_record}
use Rattle.who_origin.proofs.Placed.{placed}
use Rattle.who_replay.proofs.Taking.{taken_refused, taken_done}

-- every plan's window has the pointer inside and room for its words
deed_room :
    (s : Settings) (ram : List ℕ) (v : Record) →
    (deed_of s (target_of ram s v.command) v).stored ≤ (deed_of s (target_of ram s v.command) v).window.size
unfolding deed_of deed_with target_of
deed_room s ram v =
    let c = cell_for ram s v.command in
    let few = deed_stored s (target_of ram s v.command) v in
    omega (arith, few, window_room c.scheme c.pointer (target_sized ram s v))

module _ (s : Settings) (ram : List ℕ) (remembered : Remembered) (v : Record) where
  plan_offset : (plan_of s ram remembered v).deed.window.offset < (plan_of s ram remembered v).deed.window.size
  unfolding plan_of plan_with deed_of deed_with target_of
  plan_offset =
      let c = cell_for ram s v.command in window_offset c.scheme c.pointer (target_sized ram s v)

  plan_room : (plan_of s ram remembered v).deed.stored ≤ (plan_of s ram remembered v).deed.window.size
  unfolding plan_of plan_with
  plan_room = deed_room s ram v

module _ (s : Settings) (a : ℕ) (h : Heard) (w : Replay) (t : Performed) (e : t ≡ performed_of s h (terminal_in w)) where
  abbrev x : State
  x = terminal_in w

  pub replay_refused :
      (number : ℕ) (m : List ℕ) (n : ℕ) →
      t ≡ Refused number →
      m ≡ (step s h x).ram →
      n ≡ next_number w.at.number →
      replay_of m (record { remembered = w.at.remembered; number = n; who = w.at.who }) ≡ replay_record s a h w
  unfolding replay_record who_next list_in last_said
  replay_refused number m n told left counted =
      let f = taken_refused s h x number (sym e ∙ told) in
      rw (left, counted, refused_state s h x f, ne_eqb (refusal_for s h x) 0 f)

  module _ (p : Plan) (told : t ≡ Done p) where
    pub replay_done :
        (m : List ℕ) (n : ℕ) (who : Who) →
        m ≡ (step s h x).ram →
        n ≡ next_number w.at.number →
        who ≡ who_wrote s p a n w.at.who →
        replay_of m (record { remembered = p.remembered; number = n; who = who }) ≡ replay_record s a h w
    unfolding replay_record who_next list_in carried_out
    replay_done m n who left counted answered =
        let k = taken_done s h x p (sym e ∙ told) in
        rw (
          left,
          answered,
          counted,
          k.plan,
          accepted_state s h x k.none,
          eq-eqb (refusal_for s h x) 0 k.none,
          placed s (plan_for s h.value x) h.value a (plan_offset s x.ram x.remembered h.value)
              (plan_room s x.ram x.remembered h.value)
              (next_number w.at.number)
              w.at.who,
        )
