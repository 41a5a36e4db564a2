-- Demand 3, proved.
use Prim.Native.Nat.{ℕ, ◌+◌, ◌≤◌, ◌<◌}
use mathlib.Core.Path.{◌≡◌}
use mathlib.Core.Bool.{true, false, not, ◌&&◌, true≢false}
use mathlib.Core.List.{List}
use lib.ListN.{length}
use lib.Dec.{ltb, eqb}
use borrow.Author.Tests.{eqb-true, ltb-true, ltb-false, le-leb, lt-ltb, not-true}
use Rattle.words.specs.declared.settings.Settings.{Settings}
use Rattle.words.proofs.Basics.{and_left, and_right}
use Rattle.windows.specs.declared.window.Window.{Window}
use Rattle.area.specs.Area.{check_area}
use Rattle.cells.specs.Stack.{stack_window}
use Rattle.area.proofs.Whole.{area_fine}
use Rattle.windows.proofs.Meets.{Outside}
use Rattle.message.specs.Heard.{Heard}
use Rattle.message.specs.Tests.{reply_refused}
use Rattle.memory.specs.State.{State}
use Rattle.message.specs.Run.{run}
use Rattle.exchange.specs.Order.{exchange_all}
use Rattle.exchange.specs.Condition.{all_well_formed, allowed_all}
use Rattle.exchange.specs.After.{kept_after, stack_after, remembered_after, replied_after}
use Rattle.exchange.specs.Exchanged.{starts_well, takes_well, asked, is_inside, Demand}
use Rattle.exchange.proofs.Taken.{Good, all_formed}
use Rattle.exchange.proofs.Unseen.{stack_tables_off, pointer_same}
use Rattle.exchange.proofs.Places.{exchange_run, exchange_formed, exchange_length}
use Rattle.exchange.proofs.Entries.{stack_holds}
use Rattle.exchange.proofs.Runs.{run_done, run_replies, run_remembers}

outside : (w : Window) (a : ℕ) → is_inside w a ≡ false → Outside w a
outside w a e l h =
    let i : is_inside w a ≡ true = rw (le-leb w.start a l, lt-ltb a (w.start + w.size) h) in true≢false (cc)

-- what is asked, part by part
record Asked (s : Settings) (x : State) (vs : List Heard) (places : List ℕ) : Type 0 where
  area : (check_area x.ram s).number ≡ 0
  room : 33 ≤ length x.reply
  some : 0 < length vs
  formed : all_well_formed s vs ≡ true
  allowed : allowed_all x.ram s places vs ≡ true

taken_apart : (s : Settings) (x : State) (vs : List Heard) (places : List ℕ) → asked s x vs places ≡ true → Asked s x vs places
unfolding asked starts_well takes_well
taken_apart s x vs places e =
    let sound = eqb (check_area x.ram s).number 0 in
    let roomy = not (reply_refused (length x.reply)) in
    let some = ltb 0 (length vs) in
    let formed = all_well_formed s vs in
    let start = sound && roomy in
    let take = some && formed in
    let allowed = allowed_all x.ram s places vs in
    let both = and_left (start && take) allowed e in
    record {
      area = eqb-true (check_area x.ram s).number 0 (and_left sound roomy (and_left start take both));
      room = ltb-false (length x.reply) 33 (not-true _ (and_right sound roomy (and_left start take both)));
      some = ltb-true 0 (length vs) (and_left some formed (and_right start take both));
      formed = and_right some formed (and_right start take both);
      allowed = and_right (start && take) allowed e;
    }

-- there is room for a reply
pub asked_room :
    (s : Settings) (x : State) (vs : List Heard) (places : List ℕ) → asked s x vs places ≡ true → 33 ≤ length x.reply
asked_room s x vs places e = (taken_apart s x vs places e).room

pub exchange : Demand
unfolding kept_after stack_after remembered_after replied_after
exchange s x vs places e =
    let q = taken_apart s x vs places e in
    let g : Good s x = record { area = area_fine x.ram s q.area; room = q.room } in
    let f = all_formed s vs q.formed in
    let b = exchange_run s places vs x g f q.allowed in
    let ws = exchange_all places vs in
    let k = exchange_formed s places vs f in
    record {
      done = (run_done s vs x g f, run_done s ws x g k);
      long = b.ram.long;
      ram = λ a h. b.ram.words a (outside (stack_window x.ram s) a h);
      pointer =
          pointer_same (Outside (stack_window x.ram s)) (stack_tables_off x.ram s g.area.accepted.stack_sound_lem)
          (run s ws x).ram (run s vs x).ram b.ram s;
      kept = b.kept;
      stack = stack_holds s ws x g k;
      remembered = run_remembers s ws x g k (rw (exchange_length places vs) q.some);
      reply = run_replies s ws x g k;
    }
