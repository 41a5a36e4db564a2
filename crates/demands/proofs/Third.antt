-- Demand 3, proved: messages of which demands 1 and 2 hold are the definitions' run, and `exchange` says what a run in
-- the new order keeps.
use Prim.Native.Nat.{ℕ, ◌≤◌}
use mathlib.Core.Path.{◌≡◌, refl, sym, ap, ◌∙◌}
use mathlib.Core.Bool.{true}
use mathlib.Core.List.{List, [], ◌∷◌, map}
use lib.ListN.{length}
use Rattle.words.specs.declared.settings.Settings.{Settings}
use Rattle.memory.specs.State.{State}
use Rattle.message.specs.Heard.{Heard}
use Rattle.message.specs.Run.{run, effects}
use Rattle.c_words.specs.Setup.{remembered_length}
use Rattle.c_words_messages.specs.Call.{Lent, state_in}
use Rattle.exchange.specs.Order.{exchange_all}
use Rattle.exchange.specs.Exchanged.{asked}
use Rattle.exchange.specs.After.{kept_after, stack_after, remembered_after, replied_all, replied_after}
use Rattle.exchange.proofs.Theorem.{exchange, asked_room}
use Rattle.demands.specs.Calls.{Message, MessageCall, shows, CMessage, Walked}
use Rattle.demands.specs.Meets.{Meets}
use Rattle.demands.specs.Walks.{Chain, Each, heard_of, Walks}
use Rattle.demands.specs.Handed.{shown_by, AllExported, heard_by, HandedWords}
use Rattle.demands.specs.Third.{all_seen, Roomy, Asked, Exchanged, Demand}
use Rattle.demands.proofs.Served.{Served, served}
use Rattle.demands.proofs.Called.{call_served}
use Rattle.demands.proofs.Seen.{chain_run, handed_run, handed_seen, chain_handed, chain_roomy}
use Rattle.demands.proofs.Handed.{all_meet, heard_shown, handed_words}

all_served : (ms : List Message) → Each Meets ms → Each Served ms
all_served [] k = tt
all_served (m ∷ ms) k = (served m k.0, all_served ms k.1)

calls_served : (cs : List MessageCall) → Each Served (map shows cs)
calls_served [] = tt
calls_served (c ∷ cs) = (call_served c, calls_served cs)

module _ (s : Settings) (x y z : State) (old new : List Message) (places : List ℕ) (v : Each Served old) (w : Each Served new) (a : Asked s x old new y z places) where
  room : 33 ≤ length x.reply
  room = asked_room s x (heard_of old) places a.asked

  seen_new : all_seen new ≡ effects s (exchange_all places (heard_of old)) x
  seen_new =
      let r = exchange s x (heard_of old) places a.asked in
      (handed_seen s x x new z w a.room.1 refl refl room a.from_new (rw a.reordered r.done.1)).0
      ∙ ap (λ (l : List Heard). effects s l x) a.reordered

  exchanged : Exchanged s x old new y z places
  unfolding kept_after stack_after remembered_after
  exchanged =
      let r = exchange s x (heard_of old) places a.asked in
      let e = a.reordered in
      let before = handed_run s x x old y v a.room.0 refl refl room a.from_old in
      let after = handed_run s x x new z w a.room.1 refl refl room a.from_new in
      let first = handed_seen s x x old y v a.room.0 refl refl room a.from_old r.done.0 in
      let last = handed_seen s x x new z w a.room.1 refl refl room a.from_new (rw e r.done.1) in
      let ram = after.0 ∙ ap (λ (l : List Heard). (run s l x).ram) e in
      let remembered = after.1 ∙ ap (λ (l : List Heard). (run s l x).remembered) e in
      record {
        done = (first.1, last.1);
        long = rw (before.0, ram) r.long;
        ram = rw (before.0, ram) r.ram;
        pointer = rw (before.0, ram) r.pointer;
        kept = rw (first.0, seen_new) r.kept;
        stack = rw (ram, seen_new) r.stack;
        remembered = rw (remembered, seen_new, e) r.remembered;
      }

  replied : Chain s x new z → z.reply ≡ replied_all (all_seen new) x.reply
  unfolding replied_after
  replied c =
      let r = exchange s x (heard_of old) places a.asked in
      let after = chain_run s x new z w c ∙ ap (λ (l : List Heard). run s l x) a.reordered in
      rw (after, seen_new) r.reply

walked :
    (c d : Walked) (u : Walks c) (v : Walks d) (places : List ℕ) →
    d.settings ≡ c.settings →
    d.before ≡ c.before →
    asked c.settings c.before (heard_of u.messages) places ≡ true →
    heard_of v.messages ≡ exchange_all places (heard_of u.messages) →
    Exchanged c.settings c.before u.messages v.messages c.after d.after places
walked c d u v places e f a r =
    let s = c.settings in
    let x = c.before in
    let old = all_served u.messages u.each in
    let new = all_served v.messages v.each in
    let room = asked_room s x (heard_of u.messages) places a in
    let chain : Chain s x v.messages d.after = rw (← e, ← f) v.chain in
    exchanged s x c.after d.after u.messages v.messages places old new
    (record {
      asked = a;
      reordered = r;
      room =
          (chain_roomy s x u.messages c.after old room u.chain, chain_roomy s x v.messages d.after new room chain);
      from_old = chain_handed s x u.messages c.after u.chain;
      from_new = chain_handed s x v.messages d.after chain;
    })

exported :
    (s : Settings) (l k j : Lent) (es fs : List CMessage) (places : List ℕ) →
    remembered_length ≤ length l.remembered →
    AllExported es →
    AllExported fs →
    asked s (state_in l) (heard_by es) places ≡ true →
    heard_by fs ≡ exchange_all places (heard_by es) →
    Each Roomy (map shown_by es) × Each Roomy (map shown_by fs) →
    HandedWords s l es k →
    HandedWords s l fs j →
    Exchanged s (state_in l) (map shown_by es) (map shown_by fs) (state_in k) (state_in j) places
exported s l k j es fs places h a b e f room c d =
    let first = heard_shown es in
    let last = heard_shown fs in
    exchanged s (state_in l) (state_in k) (state_in j) (map shown_by es) (map shown_by fs) places
    (all_served (map shown_by es) (all_meet es a))
    (all_served (map shown_by fs) (all_meet fs b))
    (record {
      asked = rw (← first) e;
      reordered = sym last ∙ f ∙ ap (λ (hs : List Heard). exchange_all places hs) first;
      room = room;
      from_old = handed_words s l es k h a c;
      from_new = handed_words s l fs j h b d;
    })

pub third : Demand
third =
    record {
      messages = λ s x y z old new places v w a. exchanged s x y z old new places (all_served old v) (all_served new w) a;
      reply = λ s x y z old new places v w a. replied s x y z old new places (all_served old v) (all_served new w) a;
      calls =
          λ s x y z old new places a.
          exchanged s x y z (map shows old) (map shows new) places (calls_served old) (calls_served new) a;
      walks = walked;
      exported = exported;
    }
