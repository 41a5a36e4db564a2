-- What a caller sees of messages one after the other is what the definitions say of a run.
use Prim.Native.Nat.{ℕ, ◌+◌, ◌≤◌, ◌<◌}
use native.Mathlib.Omega.{arith}
use mathlib.Core.Path.{◌≡◌, refl, sym, ap, ◌∙◌}
use mathlib.Core.List.{List, [], ◌∷◌}
use lib.ListN.{length, get_or, take, drop, length-drop}
use lib.Seq.{take-append_seam, length-take-le, get_or-take, get_or-drop, ext_get_or}
use borrow.Author.Tests.{eq-eqb}
use Rattle.words.specs.declared.settings.Settings.{Settings}
use Rattle.memory.specs.State.{State}
use Rattle.cells.specs.Stack.{stack_pointer}
use Rattle.writes.specs.Writes.{descriptor_of}
use Rattle.writes.specs.Reply.{reply_words}
use Rattle.message.specs.Heard.{Heard}
use Rattle.message.specs.Tests.{refusal_for}
use Rattle.message.specs.Message.{plan_for, answer_of, step}
use Rattle.message.specs.Run.{Effect, effect_of, effects, run}
use Rattle.message.proofs.Refusals.{number_told}
use Rattle.message.proofs.Sure.{accepted_sure}
use Rattle.exchange.specs.Exchanged.{all_done}
use Rattle.demands.specs.Calls.{Message}
use Rattle.demands.specs.Walks.{Chain, Handed, Each, heard_of}
use Rattle.demands.specs.Third.{seen, all_seen, Roomy}
use Rattle.demands.proofs.Worked.{stepped, step_worked}
use Rattle.demands.proofs.Served.{Served}
use Rattle.demands.proofs.Room.{Alike, alike_next, alike_effect, room_kept}

-- four words that stand at a place
four_words :
    (l ds : List ℕ) (p : ℕ) →
    p + 4 ≤ length l →
    length ds ≡ 4 →
    ((k : ℕ) → k < 4 → get_or l (p + k) 0 ≡ get_or ds k 0) →
    take 4 (drop p l) ≡ ds
four_words l ds p h long same =
    let t : length (take 4 (drop p l)) ≡ 4 = length-take-le 4 (drop p l) (rw length-drop (omega arith)) in
    ext_get_or 0 (take 4 (drop p l)) ds (t ∙ sym long)
    (λ k b. let c : k < 4 = omega arith in get_or-take 4 (drop p l) k 0 c ∙ get_or-drop p l k 0 ∙ same k c)

-- what is seen of an accepted message is its effect
seen_step : (s : Settings) (h : Heard) (x : State) → refusal_for s h x ≡ 0 → seen (stepped s h x) ≡ effect_of s h x
unfolding effect_of descriptor_of
seen_step s h x e =
    let w = step_worked s h x e in
    let d = (plan_for s h.value x).deed in
    let p = stack_pointer x.ram s in
    let room : p + 4 ≤ length (step s h x).ram = rw w.long (accepted_sure s h x e).stack.pointer in
    let sends : (seen (stepped s h x)).sends ≡ reply_words x.ram d =
    rw (← w.sent, w.reply)
    (take-append_seam (reply_words x.ram d) (drop (length (reply_words x.ram d)) x.reply)) in
    let descriptor = four_words (step s h x).ram (descriptor_of d h.value) p room refl w.descriptor in
    rw (eq-eqb (refusal_for s h x) 0 e)
    (λ i. record { answer = answer_of s h x; sends = sends i; descriptor = descriptor i })

-- a message of a chain is what the definitions say of it
as_stepped :
    (s : Settings) (x : State) (m : Message) →
    Served m →
    m.settings ≡ s →
    m.before ≡ x →
    m ≡ stepped s m.heard x
as_stepped s x m v e f =
    λ i. record {
      settings = e i;
      heard = m.heard;
      before = f i;
      answer = (v.answer ∙ λ j. answer_of (e j) m.heard (f j)) i;
      after = (v.after ∙ λ j. step (e j) m.heard (f j)) i;
    }

pub chain_run :
    (s : Settings) (x : State) (ms : List Message) (y : State) →
    Each Served ms →
    Chain s x ms y →
    y ≡ run s (heard_of ms) x
unfolding run
chain_run s x [] y v c = c
chain_run s x (m ∷ ms) y v c =
    let same = as_stepped s x m v.0 c.0 c.1.0 in
    let after : m.after ≡ step s m.heard x = ap (λ (n : Message). n.after) same in
    chain_run s m.after ms y v.1 c.1.1 ∙ ap (λ (z : State). run s (heard_of ms) z) after

-- ---- with a reply buffer of its own for each message

-- what a message begins with is alike a state of the run
begins :
    (s : Settings) (x x' : State) (m : Message) →
    Roomy m →
    x.ram ≡ x'.ram →
    x.remembered ≡ x'.remembered →
    33 ≤ length x'.reply →
    m.before.ram ≡ x.ram →
    m.before.remembered ≡ x.remembered →
    Alike m.before x'
begins s x x' m l e f k g h = record { ram = g ∙ e; remembered = h ∙ f; room = l; other_room = k }

abbrev next_in : (s : Settings) (x' : State) (m : Message) → State
next_in s x' m = step s m.heard x'

pub handed_run :
    (s : Settings) (x x' : State) (ms : List Message) (y : State) →
    Each Served ms →
    Each Roomy ms →
    x.ram ≡ x'.ram →
    x.remembered ≡ x'.remembered →
    33 ≤ length x'.reply →
    Handed s x ms y →
    (y.ram ≡ (run s (heard_of ms) x').ram) × (y.remembered ≡ (run s (heard_of ms) x').remembered)
unfolding run
handed_run s x x' [] y v l e f k c = (c.0 ∙ e, c.1 ∙ f)
handed_run s x x' (m ∷ ms) y v l e f k c =
    let same = as_stepped s m.before m v.0 c.0 refl in
    let next = alike_next s m.heard m.before x' (begins s x x' m l.0 e f k c.1.0 c.1.1.0) in
    handed_run s m.after (next_in s x' m) ms y v.1 l.1
    (ap (λ (n : Message). n.after.ram) same ∙ next.ram)
    (ap (λ (n : Message). n.after.remembered) same ∙ next.remembered)
    next.other_room
    c.1.1.1

-- where none is refused
pub handed_seen :
    (s : Settings) (x x' : State) (ms : List Message) (y : State) →
    Each Served ms →
    Each Roomy ms →
    x.ram ≡ x'.ram →
    x.remembered ≡ x'.remembered →
    33 ≤ length x'.reply →
    Handed s x ms y →
    all_done (effects s (heard_of ms) x') →
    (all_seen ms ≡ effects s (heard_of ms) x') × Each (λ m. m.answer.number ≡ 0) ms
unfolding effects all_done effect_of
handed_seen s x x' [] y v l e f k c d = (refl, tt)
handed_seen s x x' (m ∷ ms) y v l e f k c d =
    let same = as_stepped s m.before m v.0 c.0 refl in
    let alike = begins s x x' m l.0 e f k c.1.0 c.1.1.0 in
    let next = alike_next s m.heard m.before x' alike in
    let effect = alike_effect s m.heard m.before x' alike in
    let done : (answer_of s m.heard m.before).number ≡ 0 = ap (λ (o : Effect). o.answer.number) effect ∙ d.0 in
    let none = sym (number_told s m.heard m.before) ∙ done in
    let front = ap seen same ∙ seen_step s m.heard m.before none ∙ effect in
    let rest =
    handed_seen s m.after (next_in s x' m) ms y v.1 l.1
    (ap (λ (n : Message). n.after.ram) same ∙ next.ram)
    (ap (λ (n : Message). n.after.remembered) same ∙ next.remembered)
    next.other_room
    c.1.1.1
    d.1 in (
      λ i. front i ∷ rest.0 i,
      (ap (λ (n : Message). n.answer.number) same ∙ done, rest.1),
    )

-- ---- one buffer for all

pub chain_handed : (s : Settings) (x : State) (ms : List Message) (y : State) → Chain s x ms y → Handed s x ms y
chain_handed s x [] y c = (ap (λ (z : State). z.ram) c, ap (λ (z : State). z.remembered) c)
chain_handed s x (m ∷ ms) y c = (
  c.0,
  (
    ap (λ (z : State). z.ram) c.1.0,
    (ap (λ (z : State). z.remembered) c.1.0, chain_handed s m.after ms y c.1.1),
  ),
)

pub chain_roomy :
    (s : Settings) (x : State) (ms : List Message) (y : State) →
    Each Served ms →
    33 ≤ length x.reply →
    Chain s x ms y →
    Each Roomy ms
chain_roomy s x [] y v k c = tt
chain_roomy s x (m ∷ ms) y v k c =
    let here : 33 ≤ length m.before.reply = rw c.1.0 k in
    let long : length m.after.reply ≡ length m.before.reply =
    ap (λ (z : State). length z.reply) v.0.after ∙ room_kept m.settings m.heard m.before in
    (here, chain_roomy s m.after ms y v.1 (rw long here) c.1.1)
