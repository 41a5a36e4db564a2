-- No well-formed message is refused where the whole-area check passes; what one such message leaves and shows.
use Prim.Native.Nat.{◌≤◌}
use native.Mathlib.Omega.{arith}
use mathlib.Core.Path.{◌≡◌}
use mathlib.Core.Bool.{true, false, not, ◌&&◌}
use mathlib.Core.List.{List, [], ◌∷◌}
use lib.ListN.{length}
use borrow.Author.Tests.{not-true, le-ltb, eq-eqb}
use Rattle.words.specs.declared.settings.Settings.{Settings}
use Rattle.words.specs.Command.{is_mode_subaddress}
use Rattle.words.specs.Refusal.{first_of}
use Rattle.words.specs.Settings.{is_not_ours}
use Rattle.words.proofs.Basics.{and_left, and_right}
use Rattle.memory.specs.State.{State}
use Rattle.memory.proofs.Writes.{length_apply}
use Rattle.cells.specs.Stack.{stack_window}
use Rattle.cells.proofs.Sound.{cell_facts_sound}
use Rattle.cells.proofs.Block.{stack_facts_sound}
use Rattle.area.proofs.Whole.{AreaFine}
use Rattle.lookup.specs.Target.{cell_for, target_of}
use Rattle.words.specs.Remembered.{remembering}
use Rattle.plan.specs.Plan.{plan_with}
use Rattle.writes.specs.Writes.{descriptor_of}
use Rattle.writes.specs.Reply.{reply_writes, reply_words}
use Rattle.writes.proofs.Replied.{reply_front, sent_few}
use Rattle.message.specs.Heard.{Heard}
use Rattle.message.specs.Tests.{cell_unsound, refusal_for}
use Rattle.message.specs.Answer.{accepted_with}
use Rattle.message.specs.Message.{carried_out, step}
use Rattle.message.specs.Run.{effect_of}
use Rattle.message.proofs.Sure.{Sure, fine_sure}
use Rattle.message.proofs.Refusals.{accepted_answer, accepted_state}
use Rattle.message.proofs.Step.{after_message, deed_for, made_plan, plan_made, deed_made, after_made}
use Rattle.message.proofs.Kept.{Kept, message_keeps, fine_kept}
use Rattle.exchange.specs.Condition.{well_formed, all_well_formed}
use Rattle.exchange.specs.After.{over_front}

-- a state from which every well-formed message is accepted
pub record Good (s : Settings) (x : State) : Type 0 where
  pub area : AreaFine x.ram s
  pub room : 33 ≤ length x.reply

pub record Formed (s : Settings) (v : Heard) : Type 0 where
  pub long : v.bad_length ≡ false
  pub layout : v.bad_layout ≡ false
  pub ours : is_not_ours s v.value.command ≡ false
  pub subaddress : is_mode_subaddress v.value.command ≡ false

pub formed : (s : Settings) (v : Heard) → well_formed s v ≡ true → Formed s v
unfolding well_formed
formed s v e =
    let long = not v.bad_length in
    let kept = not v.bad_layout in
    let ours = not (is_not_ours s v.value.command) in
    let plain = not (is_mode_subaddress v.value.command) in
    let l = and_left (long && kept) (ours && plain) e in
    let r = and_right (long && kept) (ours && plain) e in
    record {
      long = not-true _ (and_left long kept l);
      layout = not-true _ (and_right long kept l);
      ours = not-true _ (and_left ours plain r);
      subaddress = not-true _ (and_right ours plain r);
    }

abbrev pub AllFormed : Settings → List Heard → Type 0
AllFormed s [] = Unit {0}
AllFormed s (v ∷ vs) = Formed s v × AllFormed s vs

pub all_formed : (s : Settings) (vs : List Heard) → all_well_formed s vs ≡ true → AllFormed s vs
unfolding all_well_formed
all_formed s [] e = tt
all_formed s (v ∷ vs) e =
    (formed s v (and_left (well_formed s v) (all_well_formed s vs) e), all_formed s vs (and_right (well_formed s v) (all_well_formed s vs) e))

-- what one accepted message leaves, and what it shows
pub record Done (s : Settings) (v : Heard) (x : State) : Type 0 where
  pub ram : (step s v x).ram ≡ after_message x.ram s v.value
  pub reply : (step s v x).reply ≡ over_front (reply_words x.ram (deed_for x.ram s v.value)) x.reply
  pub long : length (step s v x).reply ≡ length x.reply
  pub remembered :
      (step s v x).remembered ≡ remembering x.remembered v.value.command (deed_for x.ram s v.value).status
  pub effect :
      effect_of s v x
      ≡ record {
        answer = accepted_with (made_plan x.ram s x.remembered v.value);
        sends = reply_words x.ram (deed_for x.ram s v.value);
        descriptor = descriptor_of (deed_for x.ram s v.value) v.value;
      }

module _ (s : Settings) (v : Heard) (x : State) (g : Good s x) (f : Formed s v) where
  pub sure : Sure x.ram s v.value.command
  sure = fine_sure x.ram s v.value.command g.area f.subaddress

  -- no test holds
  pub not_refused : refusal_for s v x ≡ 0
  unfolding refusal_for first_of cell_unsound
  not_refused =
      let ram = x.ram in
      rw (
        g.area.accepted.ram_accepted,
        le-ltb (length x.reply) 33 g.room,
        g.area.accepted.settings_accepted,
        f.long,
        f.layout,
        f.ours,
        f.subaddress,
        stack_facts_sound ram s g.area.accepted.stack_sound_lem,
        cell_facts_sound (length ram) (stack_window ram s) (cell_for ram s v.value.command) sure.cell,
      )

  pub done : Done s v x
  unfolding effect_of carried_out plan_with over_front
  done =
      let d = deed_for x.ram s v.value in
      let e = accepted_state s v x not_refused in
      let p = plan_made s x.ram x.remembered v.value in
      let d-made = deed_made s x.ram x.remembered v.value in
      record {
        ram = rw (e, after_made s x.ram x.remembered v.value);
        reply =
            rw (e, d-made)
            (reply_front x.ram d x.reply
            (omega (arith, sent_few s (target_of x.ram s v.value.command) v.value, g.room)));
        long = rw (e, d-made) (length_apply (reply_writes x.ram d) x.reply);
        remembered = rw (e, p);
        effect = rw (accepted_answer s v x not_refused, eq-eqb (refusal_for s v x) 0 not_refused, p);
      }

  -- and the next message finds such a state again
  pub good_next : Good s (step s v x)
  good_next =
      record {
        area = rw done.ram (fine_kept x.ram s v.value sure g.area);
        room = rw done.long g.room;
      }

  -- whose windows and stack's block are the same
  pub step_keeps : Kept s x.ram (step s v x).ram
  step_keeps = rw done.ram (message_keeps x.ram s v.value sure)
