-- Comparing spans is comparing windows: a cell that takes no part has no span, and a span without an address meets
-- none.
use Prim.Native.Nat.{ℕ, ◌+◌, ◌-◌, ◌<◌, ◌≤◌}
use native.Mathlib.Omega.{arith}
use mathlib.Core.Path.{◌≡◌, refl, sym, ap, ◌∙◌}
use mathlib.Core.Logic.{⊎_elim}
use mathlib.Core.Bool.{Bool, true, false, not, cond, ◌&&◌, and-false}
use mathlib.Core.List.{List}
use lib.ListN.{length, length-map, get_or, get_or-map}
use lib.Dec.{eqb}
use borrow.Author.Tests.{lt-ltb, le-ltb, ne_eqb}
use Rattle.words.specs.Settings.{has_broadcast_cells}
use Rattle.words.specs.declared.settings.Settings.{Settings}
use Rattle.words.proofs.Basics.{yes_or_no, not_both}
use Rattle.words.proofs.Fill.{fill_at}
use Rattle.windows.specs.declared.window.Window.{Window}
use Rattle.windows.specs.Window.{meets, windows_meet}
use Rattle.cells.specs.Cell.{sound_cell}
use Rattle.cells.specs.Stack.{stack_window}
use Rattle.cells.proofs.Sizes.{cell_sized, window_nonempty}
use Rattle.memory.specs.Kind.{kind_numbered}
use Rattle.area.specs.Area.{is_read, read_end, cell_numbered, is_unsound}
use Rattle.area.proofs.Listed.{read_listed}
use Rattle.label_spans.specs.declared.span.Span.{Span}
use Rattle.label.specs.Listing.{above, passing, pairs_below}
use Rattle.label_spans.specs.Span.{window_numbered, read_and_sound, span_of_window, no_span, span_of, starts_of, ends_of, starts_into, ends_into, spans_meet, span_at, places_meet, read_in_vain}
use Rattle.label.specs.Label.{takes_part, cells_meet, meeting_pairs, unsound_cells}
use Rattle.label.proofs.Turns.{passing_same, pairs_same, pairs_stay}
use Rattle.label.proofs.Meeting.{TakesPart, part_facts}

-- ---- two spans

-- none meets what has no address
none_right : (v : Span) → spans_meet v no_span ≡ false
unfolding spans_meet
none_right v = rw (le-ltb v.start 0 (omega arith))

none_left : (v : Span) → spans_meet no_span v ≡ false
unfolding spans_meet
none_left v = rw (le-ltb v.start 0 (omega arith), and-false)

windows_spans : (v w : Window) → spans_meet (span_of_window v) (span_of_window w) ≡ windows_meet v w
unfolding spans_meet meets
windows_spans v w = refl

-- of two windows, each there or not
pub both_there :
    (a b : Bool) (v w : Window) →
    spans_meet (cond a (span_of_window v) no_span) (cond b (span_of_window w) no_span) ≡ ((a && b) && windows_meet v w)
both_there true true v w = windows_spans v w
both_there true false v w = none_right (span_of_window v)
both_there false b v w = none_left (cond b (span_of_window w) no_span)

-- what has an address ends after 0
end_there : (b : Bool) (w : Window) → 0 < w.size → eqb (cond b (span_of_window w) no_span).end 0 ≡ not b
end_there true w h = ne_eqb (w.start + w.size) 0 (λ e. omega arith)
end_there false w h = refl

and_exchange : (a b c : Bool) → (a && (b && c)) ≡ (b && (a && c))
and_exchange true b c = refl
and_exchange false b c = sym (and-false b)

read_unsound : (read sound : Bool) → (read && not (read && sound)) ≡ (read && not sound)
read_unsound true sound = refl
read_unsound false sound = refl

-- as the loops' turns ask it
pub turn_above :
    (spans : List Span) (lower higher : ℕ) (met : Bool) → lower < higher →
    met ≡ spans_meet (span_at spans lower) (span_at spans higher) → above (places_meet spans) lower higher ≡ met
unfolding places_meet
turn_above spans lower higher met l e = rw (lt-ltb lower higher l, e)

module _ (ram : List ℕ) (s : Settings) where
  abbrev span : ℕ → Span
  span n = span_of ram s (stack_window ram s) n

  abbrev meet_here : ℕ → ℕ → Bool
  meet_here a b = windows_meet (window_numbered ram s a) (window_numbered ram s b)

  pub spans_cells :
      (cell other : ℕ) → (not (eqb other cell) && spans_meet (span cell) (span other)) ≡ cells_meet ram s cell other
  unfolding span_of cells_meet takes_part
  spans_cells cell other =
      let a = read_and_sound ram s (stack_window ram s) cell in
      let b = read_and_sound ram s (stack_window ram s) other in
      rw (both_there a b (window_numbered ram s cell) (window_numbered ram s other))
      (and_exchange (not (eqb other cell)) (a && b) (meet_here cell other))

  -- a window that is there has an address
  pub window_there : (n : ℕ) → 0 < (window_numbered ram s n).size
  unfolding cell_numbered
  window_there n =
      window_nonempty _ _ (cell_sized ram s.area (kind_numbered n) _)

  pub no_end : (n : ℕ) → eqb (span n).end 0 ≡ not (takes_part ram s n)
  unfolding span_of takes_part
  no_end n = end_there (read_and_sound ram s (stack_window ram s) n) (window_numbered ram s n) (window_there n)

  -- ---- the table of all spans

  -- where each begins and where each ends, put over a list as long
  pub record Table (spans : List Span) : Type 0 where
    pub places : List Span
    pub long : length places ≡ 96
    pub starts : starts_of spans ≡ starts_into ram s (starts_of places)
    pub ends : ends_of spans ≡ ends_into ram s (ends_of places)

  -- is the span of each cell
  table_at : (spans : List Span) → Table spans → (n : ℕ) → n < 96 → span_at spans n ≡ span n
  table_at spans t n h =
      let start : Span → ℕ = λ v. v.start in
      let end : Span → ℕ = λ v. v.end in
      let b : (span_at spans n).start ≡ (span n).start =
      sym (get_or-map start spans n no_span) ∙ ap (λ l. get_or l n 0) t.starts
      ∙ fill_at (λ k. (span k).start) (starts_of t.places) 96 n (omega (arith, length-map t.places start, t.long)) h in
      let e : (span_at spans n).end ≡ (span n).end =
      sym (get_or-map end spans n no_span) ∙ ap (λ l. get_or l n 0) t.ends
      ∙ fill_at (λ k. (span k).end) (ends_of t.places) 96 n (omega (arith, length-map t.places end, t.long)) h in
      λ i. record { start = b i; end = e i }

  -- two cells of the table meet, if they are not the same
  places_cells :
      (spans : List Span) → Table spans → (cell other : ℕ) → cell < other → other < 96 →
      places_meet spans cell other ≡ cells_meet ram s cell other
  unfolding places_meet
  places_cells spans t cell other l h =
      let k : cell < 96 = omega arith in
      let d : eqb other cell ≡ false = ne_eqb other cell (λ e. omega arith) in
      rw (table_at spans t cell k, table_at spans t other h) (rw d at (spans_cells cell other))

  -- a cell that is read and has no span is unsound
  in_vain : (spans : List Span) → Table spans → (n : ℕ) → n < 96 → read_in_vain s spans n ≡ is_unsound ram s (stack_window ram s) n
  unfolding read_in_vain takes_part read_and_sound is_unsound
  in_vain spans t n h =
      rw (table_at spans t n h, no_end n)
      (read_unsound (is_read s n) (sound_cell (length ram) (stack_window ram s) (cell_numbered ram s n)))

  -- cells from `read_end` on are not read, so they meet none
  past_none : (n : ℕ) → read_end s ≤ n → TakesPart ram s n → ⊥
  past_none n h f =
      let separate = has_broadcast_cells s in
      let listed = read_listed s n f.read in
      ⊎_elim
      (λ (b : separate ≡ true). let past : 96 ≤ n = rw b at h in omega (arith, listed.below))
      (λ (b : separate ≡ false). let past : 64 ≤ n = rw b at h in not_both separate (listed.separate past) b)
      (yes_or_no separate)

  past_apart : (n : ℕ) → read_end s ≤ n → takes_part ram s n ≡ false
  past_apart n h =
      ⊎_elim (λ e. absurd (past_none n h (part_facts ram s n e))) (λ e. e) (yes_or_no (takes_part ram s n))

  end_small : read_end s ≤ 96
  end_small =
      let separate = has_broadcast_cells s in
      ⊎_elim
      (λ (b : separate ≡ true). rw b (omega arith))
      (λ (b : separate ≡ false). rw b (omega arith))
      (yes_or_no separate)

  read_pairs : pairs_below (cells_meet ram s) 96 96 ≡ pairs_below (cells_meet ram s) (read_end s) (read_end s)
  unfolding cells_meet
  read_pairs =
      let end = read_end s in
      let whole : end + (96 - end) ≡ 96 = omega (arith, end_small) in
      rw whole at
      (pairs_stay (cells_meet ram s) end (96 - end) (λ k l h. rw (past_apart l h, and-false (takes_part ram s k)))
      (λ k l h. rw (past_apart k h)) (96 - end))

  -- so the table gives the label's lists
  pub table_pairs :
      (spans : List Span) (end : ℕ) → Table spans → end ≡ read_end s →
      pairs_below (places_meet spans) end end ≡ meeting_pairs ram s
  unfolding meeting_pairs
  table_pairs spans end t r =
      rw (r, read_pairs)
      (pairs_same (places_meet spans) (cells_meet ram s) (read_end s) (read_end s)
      (λ k l j h. places_cells spans t k l j (omega (arith, end_small))))

  pub table_unsound : (spans : List Span) → Table spans → passing (read_in_vain s spans) 96 ≡ unsound_cells ram s
  unfolding unsound_cells
  table_unsound spans t = passing_same (read_in_vain s spans) (is_unsound ram s (stack_window ram s)) 96 (in_vain spans t)

-- a cell that has no span meets none
pub spanless_none : (spans : List Span) (cell : ℕ) → (span_at spans cell).end ≡ 0 → (k : ℕ) → places_meet spans cell k ≡ false
unfolding places_meet spans_meet
spanless_none spans cell z k = rw (z, le-ltb (span_at spans k).start 0 (omega arith), and-false)
