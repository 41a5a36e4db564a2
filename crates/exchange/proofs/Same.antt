-- Two RAMs that are equal outside the stack's block: a message, and a run, finds and leaves the same in both.
use Prim.Native.Nat.{ℕ}
use mathlib.Core.Path.{◌≡◌, refl, sym, ◌∙◌}
use mathlib.Core.Logic.{⊎_elim}
use mathlib.Core.List.{List, [], ◌∷◌}
use lib.ListN.{length}
use Rattle.words.specs.declared.settings.Settings.{Settings}
use Rattle.words.proofs.Basics.{eq_or_ne}
use Rattle.windows.specs.declared.window.Window.{Window}
use Rattle.memory.specs.Map.{stack_pointer_place}
use Rattle.windows.specs.Window.{place_of}
use Rattle.cells.specs.Stack.{stack_pointer, stack_window}
use Rattle.windows.proofs.Wrap.{SameRun, same_back}
use Rattle.windows.proofs.Meets.{Outside}
use Rattle.cells.proofs.Sound.{sound_place}
use Rattle.lookup.specs.Target.{cell_for, target_of}
use Rattle.plan.specs.Plan.{plan_with}
use Rattle.plan.specs.Entry.{entry_of}
use Rattle.writes.specs.Writes.{deed_writes}
use Rattle.writes.specs.Reply.{reply_words}
use Rattle.message.specs.Heard.{Heard}
use Rattle.message.specs.Answer.{accepted_with}
use Rattle.memory.specs.State.{State}
use Rattle.message.specs.Message.{step}
use Rattle.message.specs.Run.{run, effect_of, effects}
use Rattle.memory.proofs.Alike.{Alike, alike_more}
use Rattle.memory.proofs.Footprint.{same_at}
use Rattle.message.proofs.Step.{deed_for, made_plan, after_length, target_sized, stack_moves, beyond_stack}
use Rattle.exchange.proofs.Unseen.{TablesOff, stack_tables_off, block_same, aim_same, sends_same}
use Rattle.exchange.proofs.Taken.{Good, Formed, AllFormed, done, sure, good_next, step_keeps}

-- the stack's block, though its pointer has moved
pub alike_block : (v w : Window) (m n : List ℕ) → SameRun v w → Alike (Outside w) m n → Alike (Outside v) m n
alike_block v w m n k = alike_more (Outside w) (Outside v) m n (λ a h p q. h (rw k.start p) (rw (k.start, k.size) q))

-- one message
module _
    (s : Settings)
    (v : Heard)
    (x y : State)
    (g : Good s x)
    (h : Good s y)
    (f : Formed s v)
    (e : Alike (Outside (stack_window x.ram s)) x.ram y.ram)
  where
    abbrev m : List ℕ
    m = x.ram

    abbrev n : List ℕ
    n = y.ram

    off : TablesOff (Outside (stack_window m s))
    off = stack_tables_off m s g.area.accepted.stack_sound_lem

    blocks_same : stack_window m s ≡ stack_window n s
    blocks_same = block_same (Outside (stack_window m s)) off m n e s

    aims_same : target_of m s v.value.command ≡ target_of n s v.value.command
    aims_same = aim_same (Outside (stack_window m s)) off m n e s v.value.command

    window_off : (k : ℕ) → Outside (stack_window m s) (place_of (target_of m s v.value.command).window k)
    unfolding target_of
    window_off k =
        (sound_place (length m) (stack_window m s) (cell_for m s v.value.command) (sure s v x g f).cell
        (target_sized m s v.value) k).stack

    reads_same : reply_words m (deed_for m s v.value) ≡ reply_words n (deed_for n s v.value)
    reads_same = sends_same (Outside (stack_window m s)) off m n e s v.value window_off

    -- what was remembered plays no part in the answer
    answer_same :
        accepted_with (made_plan m s x.remembered v.value) ≡ accepted_with (made_plan n s y.remembered v.value)
    unfolding accepted_with plan_with entry_of
    answer_same = rw (aims_same, blocks_same)

    pub effect_same : effect_of s v x ≡ effect_of s v y
    effect_same =
        let p = (done s v x g f).effect in
        let q = (done s v y h f).effect in
        rw (p, q, answer_same, reads_same, aims_same)

    pub step_same : Alike (Outside (stack_window m s)) (step s v x).ram (step s v y).ram
    unfolding stack_pointer
    step_same =
        let p = (done s v x g f).ram in
        let q = (done s v y h f).ram in
        let fm = sure s v x g f in
        let fn = sure s v y h f in
        rw (p, q)
        (record {
          long = after_length m s v.value ∙ e.long ∙ sym (after_length n s v.value);
          words =
              λ a o.
              ⊎_elim
              (λ (r : a ≡ stack_pointer_place s.area).
              rw r (stack_moves m s v.value fm ∙ rw blocks_same (sym (stack_moves n s v.value fn))))
              (λ (r : a ≡ stack_pointer_place s.area → ⊥).
              beyond_stack m s v.value fm a o r
              ∙ same_at a (deed_writes s (deed_for m s v.value) v.value) m n e.long (e.words a o)
              ∙ rw aims_same (sym (beyond_stack n s v.value fn a (rw blocks_same at o) r)))
              (eq_or_ne a (stack_pointer_place s.area));
        })

-- a whole run
pub run_same :
    (s : Settings) (vs : List Heard) (x y : State) →
    Good s x →
    Good s y →
    AllFormed s vs →
    Alike (Outside (stack_window x.ram s)) x.ram y.ram →
    (effects s vs x ≡ effects s vs y) × Alike (Outside (stack_window x.ram s)) (run s vs x).ram (run s vs y).ram
unfolding effects run
run_same s [] x y g h f e = (refl, e)
run_same s (v ∷ vs) x y g h f e =
    let x₁ = step s v x in
    let y₁ = step s v y in
    let k = (step_keeps s v x g f.0).stack in
    let r =
    run_same s vs x₁ y₁ (good_next s v x g f.0) (good_next s v y h f.0) f.1
    (alike_block (stack_window x₁.ram s) (stack_window x.ram s) x₁.ram y₁.ram k (step_same s v x y g h f.0 e)) in (
      rw (effect_same s v x y g h f.0 e, r.0),
      alike_block (stack_window x.ram s) (stack_window x₁.ram s) (run s vs x₁).ram (run s vs y₁).ram
          (same_back (stack_window x₁.ram s) (stack_window x.ram s) k) r.1,
    )
