-- Exchanges at any places of a run, one and then as many as one likes.
use Prim.Native.Nat.{ℕ, zero, suc}
use native.Mathlib.Omega.{arith}
use mathlib.Core.Path.{◌≡◌, refl, sym, ap, ◌∙◌}
use mathlib.Core.Bool.{true, true≢false}
use mathlib.Core.List.{List, [], ◌∷◌, map}
use lib.ListN.{length}
use Rattle.records.specs.declared.value.Record.{Record}
use Rattle.words.specs.declared.settings.Settings.{Settings}
use Rattle.words.specs.Command.{subaddress_of}
use Rattle.words.proofs.Basics.{and_left, and_right}
use Rattle.memory.specs.Kind.{kind_of}
use Rattle.cells.specs.Stack.{stack_window}
use Rattle.windows.proofs.Wrap.{SameRun, same_back}
use Rattle.lookup.specs.Target.{cell_for, target_of}
use Rattle.message.specs.Heard.{Heard}
use Rattle.memory.specs.State.{State}
use Rattle.message.specs.Message.{step}
use Rattle.message.specs.Run.{run, Effect, effect_of, effects}
use Rattle.message.proofs.Kept.{Kept}
use Rattle.exchange.specs.Order.{swap_at, exchange_all}
use Rattle.exchange.specs.Condition.{may_exchange, allowed_at, allowed_all}
use Rattle.exchange.specs.Kept.{without_stack_rollover}
use Rattle.exchange.proofs.Taken.{Good, AllFormed, done, sure, good_next, step_keeps}
use Rattle.memory.proofs.Alike.{Alike, alike_self, alike_both}
use Rattle.windows.proofs.Meets.{Outside}
use Rattle.exchange.proofs.Same.{alike_block, run_same}
use Rattle.exchange.proofs.Separate.{separate, separate_swap}
use Rattle.exchange.proofs.Swap.{shown_stays, orders_alike}

-- cells and windows stay, so what may be exchanged at the start may be exchanged later, and the other way round
pub may_stays :
    (ram after : List ℕ) (s : Settings) (a b : Record) → Kept s ram after → may_exchange after s a b ≡ may_exchange ram s a b
unfolding may_exchange target_of cell_for
may_stays ram after s a b k =
    let v = k.window (kind_of s a.command) (subaddress_of a.command) (omega arith) in
    let w = k.window (kind_of s b.command) (subaddress_of b.command) (omega arith) in
    rw (v.start, v.size, w.start, w.size)

pub allowed_stays :
    (ram after : List ℕ) (s : Settings) (n : ℕ) (vs : List Heard) →
    Kept s ram after →
    allowed_at after s n vs ≡ allowed_at ram s n vs
unfolding allowed_at
allowed_stays ram after s n [] k = refl
allowed_stays ram after s n (a ∷ []) k = refl
allowed_stays ram after s zero (a ∷ b ∷ rest) k = may_stays ram after s a.value b.value k
allowed_stays ram after s (suc n) (a ∷ b ∷ rest) k = allowed_stays ram after s n (b ∷ rest) k

-- the two runs beside each other: RAM outside the stack, and what each message shows
pub record Beside (s : Settings) (x : State) (vs ws : List Heard) (shown : List Effect) : Type 0 where
  pub ram : Alike (Outside (stack_window x.ram s)) (run s ws x).ram (run s vs x).ram
  pub kept : map without_stack_rollover (effects s ws x) ≡ shown

-- one exchange
pub swap_run :
    (s : Settings) (n : ℕ) (vs : List Heard) (x : State) →
    Good s x →
    AllFormed s vs →
    allowed_at x.ram s n vs ≡ true →
    Beside s x vs (swap_at n vs) (swap_at n (map without_stack_rollover (effects s vs x)))
unfolding swap_at allowed_at run effects
swap_run s n [] x g f e = absurd (true≢false (sym e))
swap_run s n (a ∷ []) x g f e = absurd (true≢false (sym e))
swap_run s zero (a ∷ b ∷ rest) x g f e =
    let p = separate x.ram s a.value b.value e in
    let q = separate_swap x.ram s a.value b.value p in
    let xa = step s a x in
    let xb = step s b x in
    let ga = good_next s a x g f.0 in
    let gb = good_next s b x g f.1.0 in
    let xab = step s b xa in
    let xba = step s a xb in
    let ra = (done s a x g f.0).ram in
    let rb = (done s b x g f.1.0).ram in
    let alike : Alike (Outside (stack_window x.ram s)) xba.ram xab.ram =
    rw ((done s a xb gb f.0).ram, (done s b xa ga f.1.0).ram, ra, rb)
    (orders_alike x.ram s a.value b.value (sure s a x g f.0) (sure s b x g f.1.0) (rw ra at (sure s b xa ga f.1.0))
    (rw rb at (sure s a xb gb f.0)) p) in
    let kb = (step_keeps s b x g f.1.0).stack in
    let ka = (step_keeps s a xb gb f.0).stack in
    let k : SameRun (stack_window xba.ram s) (stack_window x.ram s) =
    record { start = ka.start ∙ kb.start; size = ka.size ∙ kb.size } in
    let r =
    run_same s rest xba xab (good_next s a xb gb f.0) (good_next s b xa ga f.1.0) f.1.1
    (alike_block (stack_window xba.ram s) (stack_window x.ram s) xba.ram xab.ram k alike) in
    record {
      ram =
          alike_block (stack_window x.ram s) (stack_window xba.ram s) (run s rest xba).ram (run s rest xab).ram
          (same_back (stack_window xba.ram s) (stack_window x.ram s) k) r.1;
      kept = rw (shown_stays s a b x g f.0 f.1.0 p, shown_stays s b a x g f.1.0 f.0 q, r.0);
    }
swap_run s (suc n) (a ∷ b ∷ rest) x g f e =
    let xa = step s a x in
    let k = step_keeps s a x g f.0 in
    let r =
    swap_run s n (b ∷ rest) xa (good_next s a x g f.0) f.1 (allowed_stays x.ram xa.ram s n (b ∷ rest) k ∙ e) in
    record {
      ram =
          alike_block (stack_window x.ram s) (stack_window xa.ram s) (run s (swap_at n (b ∷ rest)) xa).ram
          (run s (b ∷ rest) xa).ram (same_back (stack_window xa.ram s) (stack_window x.ram s) k.stack) r.ram;
      kept = ap (λ (es : List Effect). without_stack_rollover (effect_of s a x) ∷ es) r.kept;
    }

-- an exchange keeps the messages well-formed, and as many
pub swap_formed : (s : Settings) (n : ℕ) (vs : List Heard) → AllFormed s vs → AllFormed s (swap_at n vs)
unfolding swap_at
swap_formed s n [] f = f
swap_formed s n (a ∷ []) f = f
swap_formed s zero (a ∷ b ∷ rest) f = (f.1.0, (f.0, f.1.1))
swap_formed s (suc n) (a ∷ b ∷ rest) f = (f.0, swap_formed s n (b ∷ rest) f.1)

swap_length : (n : ℕ) (vs : List Heard) → length (swap_at n vs) ≡ length vs
unfolding swap_at
swap_length n [] = refl
swap_length n (a ∷ []) = refl
swap_length zero (a ∷ b ∷ rest) = refl
swap_length (suc n) (a ∷ b ∷ rest) = ap suc (swap_length n (b ∷ rest))

pub exchange_formed : (s : Settings) (ns : List ℕ) (vs : List Heard) → AllFormed s vs → AllFormed s (exchange_all ns vs)
unfolding exchange_all
exchange_formed s [] vs f = f
exchange_formed s (n ∷ ns) vs f = exchange_formed s ns (swap_at n vs) (swap_formed s n vs f)

pub exchange_length : (ns : List ℕ) (vs : List Heard) → length (exchange_all ns vs) ≡ length vs
unfolding exchange_all
exchange_length [] vs = refl
exchange_length (n ∷ ns) vs = exchange_length ns (swap_at n vs) ∙ swap_length n vs

-- as often as you like
pub exchange_run :
    (s : Settings) (ns : List ℕ) (vs : List Heard) (x : State) →
    Good s x →
    AllFormed s vs →
    allowed_all x.ram s ns vs ≡ true →
    Beside s x vs (exchange_all ns vs) (exchange_all ns (map without_stack_rollover (effects s vs x)))
unfolding exchange_all allowed_all
exchange_run s [] vs x g f e = record { ram = alike_self (Outside (stack_window x.ram s)) (run s vs x).ram; kept = refl }
exchange_run s (n ∷ ns) vs x g f e =
    let first = allowed_at x.ram s n vs in
    let later = allowed_all x.ram s ns (swap_at n vs) in
    let p = swap_run s n vs x g f (and_left first later e) in
    let q = exchange_run s ns (swap_at n vs) x g (swap_formed s n vs f) (and_right first later e) in
    record {
      ram =
          alike_both (Outside (stack_window x.ram s)) (run s (exchange_all ns (swap_at n vs)) x).ram (run s (swap_at n vs) x).ram
          (run s vs x).ram q.ram p.ram;
      kept = q.kept ∙ ap (λ (es : List Effect). exchange_all ns es) p.kept;
    }
