-- The printed label means what it says: whoever stores a word in a cell's window is that cell, or stands in its label
-- as able to write.
use Prim.Native.Nat.{ℕ, ◌<◌}
use native.Mathlib.Omega.{arith}
use mathlib.Core.Path.{◌≡◌, refl, sym, ◌∙◌}
use mathlib.Core.Bool.{Bool, true, false, cond, ◌&&◌}
use mathlib.Core.List.{List}
use Rattle.words.specs.declared.settings.Settings.{Settings}
use Rattle.words.specs.Command.{transmits, subaddress_of}
use Rattle.words.specs.Number.{ram_length, mode_subaddress}
use Rattle.words.specs.Settings.{is_broadcast}
use Rattle.words.proofs.Commands.{data_subaddress}
use Rattle.words.proofs.Refusals.{accepted}
use Rattle.memory.specs.declared.kind.Kind.TheVariants.{Receive, Transmit, Broadcast}
use Rattle.memory.specs.Kind.{cell_number, kind_numbered, kind_of}
use Rattle.memory.specs.State.{State}
use Rattle.memory.proofs.Numbers.{number_kind}
use Rattle.windows.specs.Window.{place_of}
use Rattle.windows.proofs.Wrap.{place_from, place_below}
use Rattle.area.specs.Area.{cell_numbered, ground_refusal}
use Rattle.area.proofs.Before.{accepted_ground}
use Rattle.area.proofs.Listed.{numbered_cell, command_read}
use Rattle.label_spans.specs.Span.{window_numbered}
use Rattle.label.specs.Label.{sharer_numbered}
use Rattle.label.proofs.Meeting.{TakesPart, part_facts}
use Rattle.label.proofs.Shared.{Shares}
use Rattle.label.proofs.Answers.{marked_shares, writes_exactly}
use Rattle.lookup.specs.Target.{cell_for, target_of}
use Rattle.plan.specs.Deed.{deed_with, deed_of}
use Rattle.message.specs.Heard.{Heard}
use Rattle.message.specs.Tests.{tests_for, refusal_for}
use Rattle.message.specs.Message.{plan_for}
use Rattle.message.proofs.Sure.{Sure, accepted_sure}
use Rattle.message.proofs.Step.{deed_for, deed_made, deed_window, target_some, stored_none}
use Rattle.label_means.specs.Means.{LabelMeans}

-- only a transmit command uses a transmit cell
transmit_only : (t b : Bool) → cond t Transmit (cond b Broadcast Receive) ≡ Transmit → t ≡ true
transmit_only true b e = refl
transmit_only false true e = let z : ◌≡◌ {A = ℕ} 0 1 = cc in absurd (omega arith)
transmit_only false false e = let z : ◌≡◌ {A = ℕ} 0 1 = cc in absurd (omega arith)

module _ (s : Settings) (h : Heard) (x : State) (e : refusal_for s h x ≡ 0) where
  abbrev ram : List ℕ
  ram = x.ram

  abbrev command : ℕ
  command = h.value.command

  abbrev number : ℕ
  number = cell_number (kind_of s command) (subaddress_of command)

  sure : Sure ram s command
  sure = accepted_sure s h x e

  -- the plan's cell, window and words are those of the command's cell
  plan_cell : (plan_for s h.value x).deed.cell ≡ number
  unfolding deed_of deed_with target_of
  plan_cell = rw (deed_made s ram x.remembered h.value)

  plan_window : (plan_for s h.value x).deed.window ≡ (target_of ram s command).window
  plan_window = rw (deed_made s ram x.remembered h.value) (deed_window ram s h.value)

  plan_stored : (plan_for s h.value x).deed.stored ≡ (deed_for ram s h.value).stored
  plan_stored = rw (deed_made s ram x.remembered h.value)

  own_cell : cell_numbered ram s number ≡ cell_for ram s command
  unfolding cell_for
  own_cell = numbered_cell ram s (kind_of s command) (subaddress_of command) (omega arith)

  own_window : window_numbered ram s number ≡ (target_of ram s command).window
  unfolding target_of
  own_window = rw own_cell

  own_part : TakesPart ram s number
  unfolding refusal_for
  own_part =
      let d = data_subaddress command (accepted (tests_for s h x) refl e mode_subaddress) in
      record { read = command_read s command d.from d.to; sound = rw own_cell sure.cell }

  ground : ground_refusal ram s ≡ 0
  unfolding refusal_for
  ground =
      accepted_ground ram s
      (record {
        ram_accepted = accepted (tests_for s h x) refl e ram_length;
        settings_accepted = sure.agreed;
        stack_sound_lem = sure.stack;
      })

  -- a cell that words are stored in is no transmit cell
  own_writes : (k : ℕ) → k < (deed_for ram s h.value).stored → kind_numbered number ≡ Transmit → ⊥
  unfolding kind_of
  own_writes k l t =
      let q = transmit_only (transmits command) (is_broadcast s command && s.separate_broadcast) (sym (number_kind (kind_of s command) (subaddress_of command) (omega arith)) ∙ t) in
      let z = stored_none ram s h.value q in
      omega arith

pub label_means : LabelMeans
unfolding sharer_numbered
label_means s h x a cell m part inside other =
    let e = m.accepted in
    let ram = x.ram in
    let n = number s h x e in
    let w = (target_of ram s h.value.command).window in
    let k = m.word in
    let at : place_of w k ≡ a = rw (← plan_window s h x e) m.there in
    let stored : k < (deed_for ram s h.value).stored = rw (← plan_stored s h x e) m.stored in
    let own = plan_cell s h x e in
    let win = own_window s h x e in
    let f : Shares ram s cell n =
    record {
      cell_part = part_facts ram s cell part;
      other_part = own_part s h x e;
      different = λ q. other (own ∙ q);
      shared =
          record {
            address = a;
            from_first = inside.from;
            below_first = inside.below;
            from_second = rw (win, ← at) (place_from w k);
            below_second = rw (win, ← at) (place_below w k (target_some ram s h.value));
          };
    } in
    let marked = marked_shares ram s (ground s h x e) cell n f in
    rw own
    (record {
      place = marked.place;
      listed = marked.inside;
      named = rw marked.marked;
      writes = rw marked.marked ((writes_exactly n).1 (own_writes s h x e k stored));
    })
