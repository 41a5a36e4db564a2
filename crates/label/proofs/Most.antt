-- How many there can be: at most 90 unsound cells, 89 cells in one listing, 4,005 pairs. Ninety cells have a subaddress
-- from 1 to 30.
use Prim.Native.Nat.{ℕ, zero, suc, ◌+◌, ◌-◌, ◌%◌, ◌<◌, ◌≤◌}
use native.Mathlib.Nat.{add-zero, add-suc}
use native.Mathlib.Omega.{arith}
use mathlib.Core.Path.{◌≡◌, refl}
use mathlib.Core.Logic.{⊎_elim}
use mathlib.Core.Bool.{Bool, true, false, not, cond, ◌&&◌, and-true}
use mathlib.Core.List.{List, [], ◌∷◌}
use lib.ListN.{length, length-append, length-map}
use lib.Dec.{ltb, leb, eqb}
use borrow.Author.Tests.{le-leb, eq-eqb, ne_eqb}
use Rattle.words.specs.declared.settings.Settings.{Settings}
use Rattle.words.proofs.Basics.{yes_or_no, eq_or_ne, and_left, and_right, and_both}
use Rattle.cells.specs.Stack.{stack_window}
use Rattle.cells.specs.Cell.{sound_cell}
use Rattle.area.specs.Area.{is_read, is_unsound, cell_numbered}
use Rattle.area.proofs.Listed.{read_listed}
use Rattle.label.specs.Listing.{above, passing, pairs_with, pairs_below}
use Rattle.label_spans.specs.declared.span.Span.{Span}
use Rattle.label_spans.specs.Span.{span_at, read_in_vain}
use Rattle.label.specs.Label.{takes_part, cells_meet, meeting_cells, meeting_pairs, unsound_cells}
use Rattle.label.proofs.Turns.{passing_yes, passing_same, passing_none}
use Rattle.label.proofs.Meeting.{part_facts, part_below, met_facts}

-- ---- any tests

one_or_none : (a b : Bool) (n : ℕ) → (a ≡ true → b ≡ true) → length (cond a (n ∷ []) []) ≤ length (cond b (n ∷ []) [])
one_or_none true b n h = rw (h refl) (omega arith)
one_or_none false b n h = omega arith

-- a test that is harder to pass lists fewer
pub fewer :
    (t u : ℕ → Bool) → ((k : ℕ) → t k ≡ true → u k ≡ true) → (n : ℕ) → length (passing t n) ≤ length (passing u n)
unfolding passing
fewer t u h zero = omega arith
fewer t u h (suc n) =
    simp length-append (omega (arith, fewer t u h n, one_or_none (t n) (u n) n (h n)))

-- fewer turns list no more
pub shorter : (t : ℕ → Bool) (n d : ℕ) → length (passing t n) ≤ length (passing t (n + d))
unfolding passing
shorter t n zero = rw add-zero (omega arith)
shorter t n (suc d) = rw (add-suc, length-append) (omega (arith, shorter t n d))

-- before a number that passes there is room for one more
pub place_before : (t : ℕ → Bool) (n m : ℕ) → n < m → t n ≡ true → length (passing t n) < length (passing t m)
place_before t n m l e =
    let d = m - (n + 1) in
    let k : n + 1 + d ≡ m = omega arith in
    let more : length (passing t (n + 1)) ≡ length (passing t n) + 1 = rw (passing_yes t n e, length-append) in
    let less : length (passing t (n + 1)) ≤ length (passing t m) = rw k at (shorter t (n + 1) d) in
    omega arith

-- a test that one number more does not pass
abbrev pub but_not : (ℕ → Bool) → ℕ → ℕ → Bool
but_not t c k = t k && not (eqb k c)

but_other : (t : ℕ → Bool) (c k : ℕ) → (k ≡ c → ⊥) → but_not t c k ≡ t k
but_other t c k h = rw (ne_eqb k c h) (and-true (t k))

pub one_fewer : (t : ℕ → Bool) (c n : ℕ) → t c ≡ true → c < n → length (passing (but_not t c) n) + 1 ≡ length (passing t n)
unfolding passing
one_fewer t c zero h l = absurd (omega arith)
one_fewer t c (suc n) h l =
    ⊎_elim
    (λ (e : n ≡ c).
    let b : passing (but_not t c) n ≡ passing t n =
    passing_same (but_not t c) t n (λ k p. but_other t c k (λ q. omega arith)) in
    let y : t n ≡ true = rw e h in
    simp (length-append, eq-eqb n c e, y, b) (omega arith))
    (λ (e : n ≡ c → ⊥).
    let i = one_fewer t c n h (omega (arith, e)) in
    simp (length-append, but_other t c n e) (omega arith))
    (eq_or_ne n c)

-- ---- cells

-- a subaddress from 1 to 30
abbrev pub data_number : ℕ → Bool
data_number n = leb 1 (n % 32) && leb (n % 32) 30

abbrev pub ninety : length (passing data_number 96) ≡ 90
unfolding passing
ninety = refl

abbrev pub data_pair : ℕ → ℕ → Bool
data_pair a b = data_number a && data_number b

above_fewer : (l t u : Bool) → (t ≡ true → u ≡ true) → (l && t) ≡ true → (l && u) ≡ true
above_fewer l t u h e = and_both l u (and_left l t e) (h (and_right l t e))

fewer_pairs :
    (t u : ℕ → ℕ → Bool) → ((a b : ℕ) → t a b ≡ true → u a b ≡ true) → (n : ℕ) →
    length (pairs_below t 96 n) ≤ length (pairs_below u 96 n)
unfolding pairs_below pairs_with
fewer_pairs t u h zero = omega arith
fewer_pairs t u h (suc n) =
    let row = fewer (above t n) (above u n) (λ k e. above_fewer (ltb n k) (t n k) (u n k) (h n k) e) 96 in
    simp (length-append, length-map) (omega (arith, fewer_pairs t u h n))

-- 90·89/2
pub all_pairs : length (pairs_below data_pair 96 96) ≡ 4005
unfolding pairs_below pairs_with passing
all_pairs = refl

read_data : (s : Settings) (n : ℕ) → is_read s n ≡ true → data_number n ≡ true
read_data s n e =
    let f = read_listed s n e in
    and_both (leb 1 (n % 32)) (leb (n % 32) 30) (le-leb 1 (n % 32) f.low) (le-leb (n % 32) 30 f.high)

-- a test that only cells pass that are read lists at most ninety
pub ninety_most : (s : Settings) (t : ℕ → Bool) → ((k : ℕ) → t k ≡ true → is_read s k ≡ true) → length (passing t 96) ≤ 90
ninety_most s t h =
    omega (arith, fewer t data_number (λ k e. read_data s k (h k e)) 96, ninety)

module _ (ram : List ℕ) (s : Settings) where
  part_data : (n : ℕ) → takes_part ram s n ≡ true → data_number n ≡ true
  part_data n e = read_data s n (part_facts ram s n e).read

  pub unsound_most : length (unsound_cells ram s) ≤ 90
  unfolding unsound_cells is_unsound
  unsound_most =
      ninety_most s (is_unsound ram s (stack_window ram s))
      (λ k e. and_left (is_read s k) (not (sound_cell (length ram) (stack_window ram s) (cell_numbered ram s k))) e)

  -- a cell that takes part is one of the ninety, and the listing is of the others
  part_most : (cell : ℕ) → takes_part ram s cell ≡ true → length (meeting_cells ram s cell) ≤ 89
  unfolding meeting_cells
  part_most cell e =
      let others = but_not data_number cell in
      let one = one_fewer data_number cell 96 (part_data cell e) (part_below ram s cell e) in
      let few = fewer (cells_meet ram s cell) others
      (λ k m.
      let f = met_facts ram s cell k m in
      and_both (data_number k) _ (part_data k f.other_part) (rw (ne_eqb k cell f.different))) 96 in
      omega (arith, ninety)

  -- a cell that takes no part meets none
  apart_meets_none : (cell : ℕ) → takes_part ram s cell ≡ false → meeting_cells ram s cell ≡ []
  unfolding meeting_cells cells_meet
  apart_meets_none cell e = passing_none (cells_meet ram s cell) 96 (λ k l. rw e)

  pub meeting_most : (cell : ℕ) → length (meeting_cells ram s cell) ≤ 89
  meeting_most cell =
      ⊎_elim (part_most cell)
      (λ (e : takes_part ram s cell ≡ false). rw (apart_meets_none cell e) (omega arith))
      (yes_or_no (takes_part ram s cell))

  pub meeting_pairs_most : length (meeting_pairs ram s) ≤ 4005
  unfolding meeting_pairs
  meeting_pairs_most =
      let few = fewer_pairs (cells_meet ram s) data_pair
      (λ a b m.
      let f = met_facts ram s a b m in
      and_both (data_number a) (data_number b) (part_data a f.cell_part) (part_data b f.other_part)) 96 in
      omega (arith, all_pairs)

-- so there is room for a number that is to be listed
pub listed_fits :
    (t : ℕ → Bool) (n end most count : ℕ) → count ≡ 0 + length (passing t n) → length (passing t end) ≤ most → n < end →
    t n ≡ true → count < most
listed_fits t n end most count e h l m =
    let room = place_before t n end l m in
    omega arith

pub vain_most : (s : Settings) (spans : List Span) → length (passing (read_in_vain s spans) 96) ≤ 90
unfolding read_in_vain
vain_most s spans = ninety_most s (read_in_vain s spans) (λ k. and_left (is_read s k) (eqb (span_at spans k).end 0))
