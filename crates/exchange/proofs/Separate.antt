-- Two messages that may be exchanged: neither finds or leaves anything else for the other having gone first.
use Prim.Native.Nat.{ℕ, ◌+◌, ◌≤◌, ◌<◌}
use native.Mathlib.Omega.{arith}
use mathlib.Core.Path.{◌≡◌, sym, ◌∙◌}
use mathlib.Core.Logic.{◌⊎◌, inl, inr, ⊎_elim}
use mathlib.Core.Bool.{true, false, not, ◌&&◌, ◌||◌}
use mathlib.Core.List.{List}
use lib.ListN.{length}
use lib.Dec.{eqb}
use borrow.Author.Tests.{eqb-false, not-true}
use Rattle.records.specs.declared.value.Record.{Record}
use Rattle.words.specs.declared.settings.Settings.{Settings}
use Rattle.words.specs.Command.{transmits, subaddress_of}
use Rattle.words.specs.Settings.{is_own}
use Rattle.words.proofs.Basics.{eq_or_ne, and_left, and_right, or_either}
use Rattle.windows.specs.declared.window.Window.{Window}
use Rattle.memory.specs.Map.{lookup_place}
use Rattle.windows.specs.Window.{place_of, windows_meet}
use Rattle.memory.specs.Kind.{kind_of}
use Rattle.cells.specs.Stack.{stack_window}
use Rattle.windows.proofs.Wrap.{place_from, place_below}
use Rattle.windows.proofs.Meets.{windows_swap, nothing_shared, Outside, in_or_out}
use Rattle.cells.proofs.Sound.{FreeAddress, sound_address}
use Rattle.memory.proofs.Places.{lookup_between, lookup_differs, ordinary_not_lookup, ordinary_not_stack_pointer}
use Rattle.lookup.specs.Target.{cell_for, target_of}
use Rattle.writes.specs.Writes.{deed_writes}
use Rattle.writes.specs.Reply.{reply_words}
use Rattle.memory.proofs.Footprint.{Avoids}
use Rattle.message.proofs.Sure.{Sure}
use Rattle.message.proofs.Step.{after_message, deed_for, deed_window, cell_low, target_some, deed_avoids, elsewhere, tables_outside}
use Rattle.message.proofs.Kept.{message_keeps, other_cell}
use Rattle.exchange.specs.Condition.{may_exchange}
use Rattle.exchange.proofs.Unseen.{target_same, words_same}

-- "they use different cells whose windows don't meet, or that both only send"
pub record Separate (ram : List ℕ) (s : Settings) (a b : Record) : Type 0 where
  pub cells : (target_of ram s a.command).number ≡ (target_of ram s b.command).number → ⊥
  pub windows :
      (windows_meet (target_of ram s a.command).window (target_of ram s b.command).window ≡ false)
      ⊎ ((transmits a.command ≡ true) × (transmits b.command ≡ true))

pub separate : (ram : List ℕ) (s : Settings) (a b : Record) → may_exchange ram s a b ≡ true → Separate ram s a b
unfolding may_exchange
separate ram s a b e =
    let t = target_of ram s a.command in
    let u = target_of ram s b.command in
    let send = transmits a.command && transmits b.command in
    let differ = not (eqb t.number u.number) in
    let off = not (windows_meet t.window u.window) in
    record {
      cells = eqb-false t.number u.number (not-true _ (and_left differ (off || send) e));
      windows =
          ⊎_elim (λ (h : off ≡ true). inl (not-true _ h))
          (λ (h : send ≡ true).
          inr (and_left (transmits a.command) (transmits b.command) h, and_right (transmits a.command) (transmits b.command) h))
          (or_either off send (and_right differ (off || send) e));
    }

pub separate_swap : (ram : List ℕ) (s : Settings) (a b : Record) → Separate ram s a b → Separate ram s b a
separate_swap ram s a b p =
    let t = target_of ram s a.command in
    let u = target_of ram s b.command in
    record {
      cells = λ e. p.cells (sym e);
      windows =
          ⊎_elim (λ (h : windows_meet t.window u.window ≡ false). inl (windows_swap u.window t.window ∙ h))
          (λ (h : (transmits a.command ≡ true) × (transmits b.command ≡ true)). inr (h.1, h.0))
          p.windows;
    }

-- b after a
module _
    (ram : List ℕ)
    (s : Settings)
    (a b : Record)
    (f : Sure ram s a.command)
    (g : Sure ram s b.command)
    (p : Separate ram s a b)
  where
    abbrev t : Window
    t = (target_of ram s a.command).window

    abbrev u : Window
    u = (target_of ram s b.command).window

    -- an address of b's window is none that a changes
    reaches : (i : ℕ) → u.start ≤ i → i < u.start + u.size → (transmits a.command ≡ true) ⊎ Outside t i
    reaches i l h =
        ⊎_elim (λ (n : windows_meet t u ≡ false). inr (λ j k. nothing_shared t.start t.size u.start u.size n i j k l h))
        (λ (n : (transmits a.command ≡ true) × (transmits b.command ≡ true)). inl n.0)
        p.windows

    window_free : (i : ℕ) → u.start ≤ i → i < u.start + u.size → FreeAddress (length ram) (stack_window ram s) i
    unfolding target_of
    window_free = sound_address (length ram) (stack_window ram s) (cell_for ram s b.command) g.cell

    pub aim_stays : target_of (after_message ram s a) s b.command ≡ target_of ram s b.command
    unfolding target_of cell_for
    aim_stays =
        let c = b.command in
        let k = message_keeps ram s a f in
        target_same (after_message ram s a) ram s c
        (other_cell ram s a f (kind_of s c) (subaddress_of c) (omega arith) (λ e. p.cells (sym e)))
        (k.illegal (is_own s c) c)
        (k.busy (is_own s c) c)

    pub reads_stay : reply_words (after_message ram s a) (deed_for (after_message ram s a) s b) ≡ reply_words ram (deed_for ram s b)
    reads_stay =
        rw aim_stays
        (words_same (after_message ram s a) ram (deed_for ram s b)
        (λ k.
        let i = place_of u k in
        let l = place_from u k in
        let h = place_below u k (target_some ram s b) in
        let o = window_free i l h in
        rw (deed_window ram s b)
        (elsewhere ram s a f i
        (λ e. ordinary_not_lookup (length ram) i o.ordinary s.area (target_of ram s a.command).number (cell_low ram s a) (sym e))
        (reaches i l h)
        o.stack
        (λ e. ordinary_not_stack_pointer (length ram) i o.ordinary s.area (sym e)))))

    -- every address is left alone by one of the two deeds
    pub one_avoids :
        (i : ℕ) → Avoids i (deed_writes s (deed_for ram s a) a) ⊎ Avoids i (deed_writes s (deed_for ram s b) b)
    one_avoids i =
        let m = (target_of ram s a.command).number in
        let n = (target_of ram s b.command).number in
        let at = lookup_place s.area n in
        let k = lookup_between s.area n (cell_low ram s b) in
        ⊎_elim
        (λ (e : i ≡ at).
        inl
        (deed_avoids ram s a i (λ q. p.cells (lookup_differs s.area m n (sym q ∙ e)))
        (inr (tables_outside ram s a f i (omega arith) (omega arith)))))
        (λ (e : i ≡ at → ⊥).
        ⊎_elim
        (λ (w : (u.start ≤ i) × (i < u.start + u.size)).
        let o = (window_free i w.0 w.1).ordinary in
        inl
        (deed_avoids ram s a i (λ q. ordinary_not_lookup (length ram) i o s.area m (cell_low ram s a) (sym q))
        (reaches i w.0 w.1)))
        (λ (w : Outside u i). inr (deed_avoids ram s b i e (inr w)))
        (in_or_out u i))
        (eq_or_ne i at)
