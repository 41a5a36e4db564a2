-- The check goes through its cells kind by kind: between the kinds no number is read.
use Rattle.std.proofs.Common.{Option, Some, None}
use Rattle.std.specs.Option.{MatchOption}
use Prim.Native.Nat.{ℕ, zero, suc, ◌+◌, ◌-◌, ◌≤◌, ◌<◌}
use native.Mathlib.Omega.{arith}
use mathlib.Core.Path.{◌≡◌, refl, sym, ◌∙◌}
use mathlib.Core.Logic.{⊎_elim}
use mathlib.Core.Bool.{Bool, true, false, not}
use mathlib.Core.List.{List}
use lib.ListN.{length}
use Rattle.words.specs.declared.settings.Settings.{Settings}
use Rattle.words.specs.Settings.{has_broadcast_cells}
use Rattle.words.proofs.Basics.{yes_or_no, not_both}
use Rattle.windows.specs.declared.window.Window.{Window}
use Rattle.memory.specs.declared.kind.Kind.{Kind}
use Rattle.memory.specs.declared.kind.Kind.TheVariants.{Receive, Transmit, Broadcast}
use Rattle.memory.specs.Kind.{cell_number}
use Rattle.memory.proofs.Numbers.{number_sub, number_below}
use Rattle.cells.specs.Cell.{cell_at, sound_cell}
use Rattle.area.specs.Area.{is_read, is_unsound, lowest}
use Rattle.area.proofs.Listed.{Listed, read_listed, listed_read, numbered_cell}
use Rattle.area.proofs.Lowest.{lowest_is, lowest_start, lowest_on, lowest_found, lowest_same, lowest_stays}

-- where the first cell of a kind is read, so are the thirty
kind_read :
    (s : Settings) (kind : Kind) (sub : ℕ) → is_read s (cell_number kind 1) ≡ true → 1 ≤ sub → sub ≤ 30 →
    is_read s (cell_number kind sub) ≡ true
unfolding cell_number
kind_read s kind sub e l h =
    let m = number_sub kind sub (omega arith) in
    listed_read s (cell_number kind sub)
    (record {
      low = omega arith;
      high = omega arith;
      below = number_below kind sub (omega arith);
      separate = λ b. (read_listed s (cell_number kind 1) e).separate (omega arith);
    })

same : (q r : Option ℕ) → (q ≡ None → r ≡ None) → ((x : ℕ) → q ≡ Some x → r ≡ Some x) → r ≡ q
same None r none some = none refl
same (Some x) r none some = some x refl

-- a number that is none where it is 0
abbrev Named : ℕ → Option ℕ → Type 0
Named low r = MatchOption r (low ≡ 0) (λ cell. (0 < cell) × (low ≡ cell))

module _ (ram : List ℕ) (s : Settings) (stack : Window) where
  abbrev bad : ℕ → Bool
  bad n = is_unsound ram s stack n

  -- ---- the cells of a kind

  abbrev bad_sub : Kind → ℕ → Bool
  bad_sub kind sub = not (sound_cell (length ram) stack (cell_at ram s.area kind sub))

  -- what the search among them finds
  abbrev first_sub : Kind → ℕ
  first_sub kind = lowest (bad_sub kind) 31

  abbrev OfKind : Kind → Option ℕ → Type 0
  OfKind kind r = MatchOption r (first_sub kind ≡ 0) (λ cell. (0 < first_sub kind) × (cell ≡ cell_number kind (first_sub kind)))

  module _ (kind : Kind) (read : is_read s (cell_number kind 1) ≡ true) (none : lowest bad (cell_number kind 1) ≡ 0) where
    sub_bad : (sub : ℕ) → 1 ≤ sub → sub ≤ 30 → bad (cell_number kind sub) ≡ bad_sub kind sub
    unfolding is_unsound
    sub_bad sub l h = rw (kind_read s kind sub read l h, numbered_cell ram s kind sub (omega arith))

    -- no number is bad up to the first
    passed : (d : ℕ) → d ≤ 30 → ((j : ℕ) → 0 < j → j < d + 1 → bad_sub kind j ≡ false) → lowest bad (cell_number kind (d + 1)) ≡ 0
    unfolding cell_number
    passed zero l h = none
    passed (suc d) l h =
        let n : cell_number kind (suc d + 1) ≡ cell_number kind (d + 1) + 1 = omega arith in
        let good = sub_bad (d + 1) (omega arith) (omega arith) ∙ h (d + 1) (omega arith) (omega arith) in
        rw n (lowest_on bad (cell_number kind (d + 1)) (passed d (omega arith) (λ j p k. h j p (omega arith))) good)

    found_none : first_sub kind ≡ 0 → lowest bad (cell_number kind 31) ≡ 0
    found_none e = passed 30 (omega arith) ((lowest_is (bad_sub kind) 31).none e)

    found_some : 0 < first_sub kind → lowest bad (cell_number kind 31) ≡ cell_number kind (first_sub kind)
    unfolding cell_number
    found_some p =
        let f = lowest_is (bad_sub kind) 31 in
        let i = first_sub kind in
        let below = f.below p in
        let d = i - 1 in
        let e : d + 1 ≡ i = omega arith in
        let before : lowest bad (cell_number kind i) ≡ 0 =
        rw e at (passed d (omega arith) (λ j q l. f.first j q (omega arith))) in
        lowest_found bad (cell_number kind 31) (cell_number kind i) (omega arith) (omega arith) before
        (sub_bad i (omega arith) (omega arith) ∙ f.found p)

  -- numbers that are not listed are passed over
  unlisted : (m d : ℕ) → ((n : ℕ) → m ≤ n → n < m + d → Listed s n → ⊥) → lowest bad (m + d) ≡ lowest bad m
  unfolding is_unsound
  unlisted m d h =
      lowest_same bad m d
      (λ n l k.
      ⊎_elim (λ e. absurd (h n l k (read_listed s n e))) (λ (e : is_read s n ≡ false). rw e) (yes_or_no (is_read s n)))

  after_receive : lowest bad 33 ≡ lowest bad 31
  after_receive = unlisted 31 2 (λ n l k f. omega arith)

  after_transmit : lowest bad 65 ≡ lowest bad 63
  after_transmit = unlisted 63 2 (λ n l k f. omega arith)

  after_broadcast : lowest bad 96 ≡ lowest bad 95
  after_broadcast = unlisted 95 1 (λ n l k f. omega arith)

  no_broadcast : has_broadcast_cells s ≡ false → lowest bad 96 ≡ lowest bad 65
  no_broadcast e =
      unlisted 65 31 (λ n l k f. not_both (has_broadcast_cells s) (f.separate (omega arith)) e)

  -- ---- kind by kind

  first_done :
      (kind : Kind) → is_read s (cell_number kind 1) ≡ true → lowest bad (cell_number kind 1) ≡ 0 → (r : Option ℕ) →
      OfKind kind r → Named (lowest bad (cell_number kind 31)) r
  unfolding cell_number
  first_done kind read none None f = found_none kind read none f
  first_done kind read none (Some x) f = let e = found_some kind read none f.0 in (omega arith, e ∙ sym f.1)

  -- the search goes on where nothing is found yet
  next_kind :
      (kind : Kind) → is_read s (cell_number kind 1) ≡ true → (q r : Option ℕ) → Named (lowest bad (cell_number kind 1)) q →
      (q ≡ None → OfKind kind r) → ((x : ℕ) → q ≡ Some x → r ≡ Some x) → Named (lowest bad (cell_number kind 31)) r
  unfolding cell_number
  next_kind kind read None r low on kept = first_done kind read low r (on refl)
  next_kind kind read (Some x) r low on kept =
      let more : cell_number kind 31 ≡ cell_number kind 1 + 30 = omega arith in
      rw (kept x refl, more) (low.0, lowest_stays bad (cell_number kind 1) 30 (λ z. omega arith) ∙ low.1)

  last_kind :
      (q r : Option ℕ) → Named (lowest bad 65) q → (q ≡ None → has_broadcast_cells s ≡ true → OfKind Broadcast r) →
      (q ≡ None → has_broadcast_cells s ≡ false → r ≡ None) → ((x : ℕ) → q ≡ Some x → r ≡ Some x) →
      Named (lowest bad 96) r
  unfolding is_read cell_number
  last_kind q r low on off kept =
      ⊎_elim
      (λ (b : has_broadcast_cells s ≡ true).
      rw after_broadcast (next_kind Broadcast (rw b) q r low (λ n. on n b) kept))
      (λ (b : has_broadcast_cells s ≡ false). rw (no_broadcast b, same q r (λ n. off n b) kept) low)
      (yes_or_no (has_broadcast_cells s))

  -- three searches, each where the one before has found nothing
  pub three_kinds :
      (p q r : Option ℕ) → OfKind Receive p → (p ≡ None → OfKind Transmit q) → ((x : ℕ) → p ≡ Some x → q ≡ Some x) →
      (q ≡ None → has_broadcast_cells s ≡ true → OfKind Broadcast r) →
      (q ≡ None → has_broadcast_cells s ≡ false → r ≡ None) → ((x : ℕ) → q ≡ Some x → r ≡ Some x) →
      Named (lowest bad 96) r
  unfolding is_read cell_number
  three_kinds p q r receive transmit first on off second =
      let one = first_done Receive refl (lowest_start bad) p receive in
      let two = next_kind Transmit refl p q (rw after_receive one) transmit first in
      last_kind q r (rw after_transmit two) on off second
