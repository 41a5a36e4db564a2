-- Two neighbours exchanged: RAM outside the stack ends equal, and each message shows the same but for the
-- stack-rollover bit.
use Prim.Native.Nat.{ℕ}
use native.Mathlib.Omega.{arith}
use mathlib.Core.Path.{◌≡◌, sym, ◌∙◌}
use mathlib.Core.Logic.{⊎_elim}
use mathlib.Core.Bool.{Bool, false}
use mathlib.Core.List.{List}
use lib.ListN.{get_or}
use Rattle.records.specs.declared.value.Record.{Record}
use Rattle.words.specs.declared.settings.Settings.{Settings}
use Rattle.words.proofs.Basics.{eq_or_ne}
use Rattle.memory.specs.Map.{stack_pointer_place}
use Rattle.windows.proofs.Meets.{Outside}
use Rattle.cells.specs.Stack.{stack_pointer, stack_window}
use Rattle.plan.specs.declared.deed.Deed.{Deed}
use Rattle.plan.specs.declared.deed.Signals.{Signals}
use Rattle.plan.specs.declared.entry.Entry.{Entry}
use Rattle.plan.specs.Entry.{entry_of}
use Rattle.words.specs.Remembered.{nothing_remembered}
use Rattle.plan.specs.Plan.{interrupt_word, plan_with}
use Rattle.plan.proofs.Interrupt.{interrupt_sum}
use Rattle.writes.specs.Writes.{deed_writes, descriptor_of}
use Rattle.memory.specs.Writes.{apply_writes}
use Rattle.writes.specs.Reply.{reply_words}
use Rattle.message.specs.Answer.{accepted_with}
use Rattle.message.specs.Heard.{Heard}
use Rattle.memory.specs.State.{State}
use Rattle.message.specs.Message.{step}
use Rattle.message.specs.Run.{Effect, effect_of}
use Rattle.words.proofs.BitLaws.{bit_small}
use Rattle.memory.proofs.Footprint.{Avoids, untouched, same_at}
use Rattle.message.proofs.Sure.{Sure}
use Rattle.message.proofs.Step.{after_message, deed_for, after_length, beyond_stack, stack_moves}
use Rattle.message.proofs.Kept.{message_keeps}
use Rattle.exchange.specs.Kept.{without_wrap, without_stack_rollover}
use Rattle.exchange.proofs.Taken.{Good, Formed, done, sure, good_next}
use Rattle.memory.proofs.Alike.{Alike}
use Rattle.exchange.proofs.Separate.{Separate, separate_swap, aim_stays, reads_stay, one_avoids}

-- the interrupt word without bit 6 is the one of a stack that did not wrap
pub wrap_cleared : (g : Signals) (wrapped : Bool) → without_wrap (interrupt_word g wrapped) ≡ interrupt_word g false
unfolding without_wrap
wrap_cleared g wrapped =
    let a = bit_small g.illegal in
    let b = bit_small g.rollover in
    let c = bit_small wrapped in
    let d = bit_small g.fault in
    let e = bit_small g.end in
    rw (interrupt_sum g wrapped, interrupt_sum g false) (omega arith)

-- an entry that did not wrap: what a message shows tells nothing else of its entry
abbrev unwrapped : Entry
unwrapped = record { pointer = 0; after = 0; wrapped = false }

-- what a message shows but for this bit, by its deed and the words that it sends
abbrev shows : Deed → List ℕ → Record → Effect
shows d words v = record { answer = accepted_with (plan_with d unwrapped nothing_remembered); sends = words; descriptor = descriptor_of d v }

shows_without_rollover :
    (s : Settings) (v : Heard) (x : State) →
    Good s x →
    Formed s v →
    without_stack_rollover (effect_of s v x)
    ≡ shows (deed_for x.ram s v.value) (reply_words x.ram (deed_for x.ram s v.value)) v.value
unfolding without_stack_rollover accepted_with plan_with
shows_without_rollover s v x g f =
    rw ((done s v x g f).effect, wrap_cleared (deed_for x.ram s v.value).signals (entry_of x.ram s).wrapped)

-- a message that goes first takes nothing from what the other shows
pub shown_stays :
    (s : Settings) (a b : Heard) (x : State) →
    Good s x →
    Formed s a →
    Formed s b →
    Separate x.ram s a.value b.value →
    without_stack_rollover (effect_of s b (step s a x)) ≡ without_stack_rollover (effect_of s b x)
shown_stays s a b x g f h p =
    let fa = sure s a x g f in
    let fb = sure s b x g h in
    shows_without_rollover s b (step s a x) (good_next s a x g f) h
    ∙ rw (
      (done s a x g f).ram,
      reads_stay x.ram s a.value b.value fa fb p,
      aim_stays x.ram s a.value b.value fa fb p,
    )
    (sym (shows_without_rollover s b x g h))

-- RAM outside the stack, in both orders
module _
    (ram : List ℕ)
    (s : Settings)
    (a b : Record)
    (fa : Sure ram s a.command)
    (fb : Sure ram s b.command)
    (fab : Sure (after_message ram s a) s b.command)
    (fba : Sure (after_message ram s b) s a.command)
    (p : Separate ram s a b)
  where
    abbrev ma : List ℕ
    ma = after_message ram s a

    abbrev mb : List ℕ
    mb = after_message ram s b

    moved_same : stack_window mb s ≡ stack_window ma s
    unfolding stack_window
    moved_same = rw (stack_moves ram s b fb, stack_moves ram s a fa)

    pointer_either_way : stack_pointer (after_message mb s a) s ≡ stack_pointer (after_message ma s b) s
    pointer_either_way = stack_moves mb s a fba ∙ rw moved_same (sym (stack_moves ma s b fab))

    outside_after :
        (v : Record) (f : Sure ram s v.command) (i : ℕ) → Outside (stack_window ram s) i → Outside (stack_window (after_message ram s v) s) i
    outside_after v f i o l h =
        let k = (message_keeps ram s v f).stack in
        o (rw k.start at l) (rw (k.start, k.size) at h)

    deeds_equal :
        (i : ℕ) →
        Outside (stack_window ram s) i →
        (i ≡ stack_pointer_place s.area → ⊥) →
        get_or (apply_writes (deed_writes s (deed_for ram s a) a) mb) i 0 ≡ get_or (apply_writes (deed_writes s (deed_for ram s b) b) ma) i 0
    deeds_equal i o r =
        let da = deed_writes s (deed_for ram s a) a in
        let db = deed_writes s (deed_for ram s b) b in
        let ea = beyond_stack ram s a fa i o r in
        let eb = beyond_stack ram s b fb i o r in
        ⊎_elim
        (λ (h : Avoids i da).
        untouched i da mb h ∙ eb ∙ same_at i db ram ma (sym (after_length ram s a)) (sym (ea ∙ untouched i da ram h)))
        (λ (h : Avoids i db).
        same_at i da mb ram (after_length ram s b) (eb ∙ untouched i db ram h) ∙ sym ea ∙ sym (untouched i db ma h))
        (one_avoids ram s a b fa fb p i)

    pub orders_alike : Alike (Outside (stack_window ram s)) (after_message mb s a) (after_message ma s b)
    unfolding stack_pointer
    orders_alike =
        record {
          long = after_length mb s a ∙ after_length ram s b ∙ sym (after_length ma s b ∙ after_length ram s a);
          words =
              λ i o.
              ⊎_elim
              (λ (r : i ≡ stack_pointer_place s.area). rw r pointer_either_way)
              (λ (r : i ≡ stack_pointer_place s.area → ⊥).
              beyond_stack mb s a fba i (outside_after b fb i o) r
              ∙ rw (aim_stays ram s b a fb fa (separate_swap ram s a b p))
              (deeds_equal i o r ∙ rw (← (aim_stays ram s a b fa fb p)) (sym (beyond_stack ma s b fab i (outside_after a fa i o) r))))
              (eq_or_ne i (stack_pointer_place s.area));
        }
