-- An accepted message: what the definitions say of it, part by part.
use Prim.Native.Nat.{ℕ, ◌+◌, ◌<◌}
use native.Mathlib.Omega.{arith}
use mathlib.Core.Path.{◌≡◌, refl, sym, ap, ◌∙◌}
use mathlib.Core.Logic.{⊎_elim}
use mathlib.Core.List.{◌++◌}
use lib.ListN.{length, get_or, drop}
use borrow.Author.Tests.{ltb-false}
use Rattle.words.specs.declared.settings.Settings.{Settings}
use Rattle.words.specs.Number.{reply_room}
use Rattle.words.proofs.Basics.{yes_or_no}
use Rattle.words.proofs.Refusals.{accepted}
use Rattle.records.specs.declared.value.Record.{Record}
use Rattle.memory.specs.Map.{lookup_place, stack_pointer_place}
use Rattle.memory.specs.State.{State}
use Rattle.memory.specs.Writes.{apply_writes}
use Rattle.memory.proofs.Writes.{length_apply}
use Rattle.memory.proofs.Footprint.{Avoids, untouched, avoids_append, avoids_places}
use Rattle.windows.specs.Window.{place_of}
use Rattle.cells.specs.Stack.{stack_pointer, stack_window}
use Rattle.lookup.specs.Target.{target_of}
use Rattle.plan.specs.Deed.{deed_with, deed_of}
use Rattle.plan.specs.declared.plan.Plan.{Plan}
use Rattle.words.specs.Remembered.{remembering}
use Rattle.plan.specs.Plan.{plan_with, plan_of}
use Rattle.plan.specs.Entry.{entry_of}
use Rattle.writes.specs.Copies.{data_writes}
use Rattle.writes.specs.Writes.{pointer_list, descriptor_of, entry_list, deed_list, stack_list, list_of, pointer_writes, entry_writes, stack_pointer_writes, deed_writes, stack_writes, writes_of}
use Rattle.writes.specs.Reply.{reply_words}
use Rattle.writes.proofs.Replied.{reply_front, sent_few}
use Rattle.message.specs.declared.answer.Answer.{Answer}
use Rattle.message.specs.Heard.{Heard}
use Rattle.message.specs.Tests.{tests_for, refusal_for}
use Rattle.message.specs.Answer.{accepted_with}
use Rattle.message.specs.Message.{plan_for, carried_out, answer_of, step}
use Rattle.message.proofs.Refusals.{message_done, number_told, accepted_answer, accepted_state}
use Rattle.message.proofs.Sure.{Sure, accepted_sure}
use Rattle.message.proofs.Step.{after_message, after_made, stored_stands, lookup_after, entry_stands, stack_moves}
use Rattle.demands.specs.Calls.{Message}
use Rattle.demands.specs.Meets.{Untouched, Worked, MessageWorked}
use Rattle.demands.proofs.Sent.{words_told}

-- an address that none of a plan's writes names
avoids_writes :
    (s : Settings) (p : Plan) (v : Record) (a : ℕ) →
    ((k : ℕ) → k < p.deed.stored → a ≡ place_of p.deed.window k → ⊥) →
    (a ≡ lookup_place s.area p.deed.cell → ⊥) →
    ((k : ℕ) → k < 4 → a ≡ p.entry.pointer + k → ⊥) →
    (a ≡ stack_pointer_place s.area → ⊥) →
    Avoids a (writes_of s p v)
unfolding list_of deed_list stack_list entry_list pointer_list
avoids_writes s p v a stored pointer descriptor stack =
    let d = p.deed in
    let words = descriptor_of d v in
    avoids_append a (deed_writes s d v) (stack_writes s p v)
    (avoids_append a (data_writes d.window v.words d.stored) (pointer_writes s d)
    (avoids_places a (place_of d.window) (λ k. get_or v.words k 0) d.stored stored)
    (⊎_elim (λ m. rw m (pointer, tt)) (λ m. rw m tt) (yes_or_no d.moves)))
    (avoids_append a (entry_writes p.entry words) (stack_pointer_writes s p.entry)
    (avoids_places a (λ k. p.entry.pointer + k) (λ k. get_or words k 0) 4 descriptor)
    (stack, tt))

-- what the definitions say of one message
abbrev pub stepped : Settings → Heard → State → Message
stepped s h x = record { settings = s; heard = h; before = x; answer = answer_of s h x; after = step s h x }

module _ (s : Settings) (h : Heard) (x : State) (e : refusal_for s h x ≡ 0) where
  abbrev plan : Plan
  plan = plan_for s h.value x

  abbrev sure : Sure x.ram s h.value.command
  sure = accepted_sure s h x e

  -- RAM is the plan's writes applied
  after_ram : (step s h x).ram ≡ apply_writes (writes_of s plan h.value) x.ram
  unfolding carried_out
  after_ram = ap (λ (y : State). y.ram) (accepted_state s h x e)

  after_there : (step s h x).ram ≡ after_message x.ram s h.value
  after_there = after_ram ∙ after_made s x.ram x.remembered h.value

  replied :
      (step s h x).reply
      ≡ reply_words x.ram plan.deed ++ drop (length (reply_words x.ram plan.deed)) x.reply
  unfolding carried_out refusal_for plan_of plan_with
  replied =
      let room = ltb-false (length x.reply) 33 (accepted (tests_for s h x) refl e reply_room) in
      ap (λ (y : State). y.reply) (accepted_state s h x e)
      ∙ reply_front x.ram plan.deed x.reply
      (omega (arith, room, sent_few s (target_of x.ram s h.value.command) h.value))

  remembers : (step s h x).remembered ≡ remembering x.remembered h.value.command plan.deed.status
  unfolding carried_out plan_of plan_with
  remembers = ap (λ (y : State). y.remembered) (accepted_state s h x e)

  stored_there :
      (k : ℕ) →
      k < plan.deed.stored →
      get_or (step s h x).ram (place_of plan.deed.window k) 0 ≡ get_or h.value.words k 0
  unfolding plan_of plan_with deed_of deed_with
  stored_there = rw after_there (stored_stands x.ram s h.value sure)

  pointer_there : get_or (step s h x).ram (lookup_place s.area plan.deed.cell) 0 ≡ plan.deed.after
  unfolding plan_of plan_with deed_of deed_with
  pointer_there = rw after_there (lookup_after x.ram s h.value sure)

  descriptor_there :
      (k : ℕ) →
      k < 4 →
      get_or (step s h x).ram (stack_pointer x.ram s + k) 0 ≡ get_or (descriptor_of plan.deed h.value) k 0
  unfolding plan_of plan_with
  descriptor_there = rw after_there (entry_stands x.ram s h.value sure)

  others_stay : (a : ℕ) → Untouched (stepped s h x) a → get_or (step s h x).ram a 0 ≡ get_or x.ram a 0
  unfolding plan_of plan_with entry_of
  others_stay a u =
      rw after_ram
      (untouched a (writes_of s plan h.value) x.ram
      (avoids_writes s plan h.value a u.cell.stored u.cell.pointer u.descriptor u.stack))

  stack_there : stack_pointer (step s h x).ram s ≡ place_of (stack_window x.ram s) 4
  unfolding plan_of
  stack_there = rw after_there (stack_moves x.ram s h.value sure)

pub step_worked : (s : Settings) (h : Heard) (x : State) → refusal_for s h x ≡ 0 → Worked (stepped s h x)
unfolding accepted_with plan_of plan_with
step_worked s h x e =
    let a = accepted_answer s h x e in
    record {
      reply = replied s h x e;
      sent = rw a (words_told x.ram s (target_of x.ram s h.value.command) h.value);
      interrupt = ap (λ (r : Answer). r.interrupt) a;
      answer = a;
      remembered = remembers s h x e;
      cell = record { stored = stored_there s h x e; pointer = pointer_there s h x e };
      descriptor = descriptor_there s h x e;
      stack = stack_there s h x e;
      long = rw after_ram (length_apply (writes_of s (plan_for s h.value x) h.value) x.ram);
      others = others_stay s h x e;
    }

-- and what it says holds of a message whose answer and state are the definitions'
pub message_worked :
    (m : Message) →
    m.answer ≡ answer_of m.settings m.heard m.before →
    m.after ≡ step m.settings m.heard m.before →
    MessageWorked m
message_worked m e f =
    let s = m.settings in
    let h = m.heard in
    let x = m.before in
    let told : m.answer.number ≡ refusal_for s h x = ap (λ (a : Answer). a.number) e ∙ number_told s h x in
    record {
      accepted = λ none. told ∙ (message_done s h x).1 none;
      worked = λ z. rw (e, f) (step_worked s h x (sym told ∙ z));
    }
