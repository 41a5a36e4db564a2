-- Wrapping inside a window, once over the size: a place lies in its window, places in a row differ, and the place after
-- k agrees with the rollover test. Then the blocks that are aligned, the single window and the double one.
use Rattle.std.proofs.Common.{rules}
use Rattle.std.proofs.lemmas.Grind.{common_steps}
use Prim.Native.Nat.{ℕ, ◌+◌, ◌-◌, ◌*◌, ◌/◌, ◌%◌, ◌≤◌, ◌<◌}
use native.Mathlib.Nat.{mod-lt, mod-le, mod-eq_of_lt, div-add-mod, mul-add-mod_self_left}
use native.Mathlib.Omega.{arith}
use mathlib.Core.Path.{◌≡◌, refl, sym, ap, ◌∙◌}
use mathlib.Core.Bool.{true, false}
use Rattle.windows.specs.declared.window.Window.{Window}
use Rattle.windows.specs.Window.{run_from, aligned, place_of, rolls_over}

-- a number in the block of p has the block's start
block_start : (p n q : ℕ) → p - p % n ≤ q → q < p - p % n + n → q % n ≡ q - (p - p % n)
block_start p n q l h =
    let d : q - (p - p % n) < n = omega arith in
    let m : p % n ≤ p = mod-le p n in
    let s : n * (p / n) + p % n ≡ p = div-add-mod p n in
    let e : n * (p / n) + (q - (p - p % n)) ≡ q = omega arith in
    let f : (n * (p / n) + (q - (p - p % n))) % n ≡ q - (p - p % n) = mul-add-mod_self_left n (p / n) (q - (p - p % n)) ∙ mod-eq_of_lt d in
    rw e at f

module _ (w : Window) where
  -- the place lies in the window
  pub place_from : (k : ℕ) → w.start ≤ place_of w k
  unfolding place_of
  place_from k = omega arith

  pub place_below : (k : ℕ) → 0 < w.size → place_of w k < w.start + w.size
  unfolding place_of
  place_below k h = search rules

  -- k places in a row are different while k is at most the size
  pub places_differ : (i j : ℕ) → i < j → j < i + w.size → place_of w i ≡ place_of w j → ⊥
  unfolding place_of
  places_differ i j l h e = grind (arith, common_steps)

  -- where the rollover test says no, the place is straight on
  pub place_straight : (k : ℕ) → rolls_over w k ≡ false → place_of w k ≡ w.start + (w.offset + k)
  unfolding place_of rolls_over
  place_straight k e = search rules

  -- where it says yes, the place is the size further back
  pub place_wrapped :
      (k : ℕ) → w.offset < w.size → k ≤ w.size → rolls_over w k ≡ true →
      place_of w k + w.size ≡ w.start + (w.offset + k)
  unfolding place_of rolls_over
  place_wrapped k o l e = search rules

  -- so the pointer after k, where it moved at all, tells whether it rolled over
  pub rolls_over_back :
      (k : ℕ) → w.offset < w.size → k ≤ w.size → rolls_over w k ≡ true → place_of w k ≤ w.start + w.offset
  rolls_over_back k o l e = omega (arith, place_wrapped k o l e)

  pub rolls_over_on :
      (k : ℕ) → 0 < k → rolls_over w k ≡ false → w.start + w.offset < place_of w k
  rolls_over_on k h e = omega (arith, place_straight k e)

-- blocks that are aligned
module _ (p n : ℕ) where
  pub aligned_pointer : (aligned p n).start + (aligned p n).offset ≡ p
  unfolding aligned
  aligned_pointer = search rules

  pub aligned_offset : 0 < n → (aligned p n).offset < n
  unfolding aligned
  aligned_offset h = mod-lt p h

  pub aligned_size : (aligned p n).size ≡ n
  unfolding aligned
  aligned_size = refl

  -- the block around any address of it is the block itself
  pub aligned_inside :
      (q : ℕ) → (aligned p n).start ≤ q → q < (aligned p n).start + n →
      aligned q n ≡ record { start = (aligned p n).start; size = n; offset = q - (aligned p n).start }
  unfolding aligned
  aligned_inside q l h =
      let e : q % n ≡ q - (p - p % n) = block_start p n q l h in
      let f : q - q % n ≡ p - p % n = omega arith in
      rw (f, e)

  -- the block after the pointer moved on by k is the same block, with the offset moved on
  pub aligned_moved :
      (k : ℕ) → 0 < n →
      aligned (place_of (aligned p n) k) n
      ≡ record { start = (aligned p n).start; size = n; offset = ((aligned p n).offset + k) % n }
  unfolding aligned place_of
  aligned_moved k h =
      let r : (p % n + k) % n < n = mod-lt (p % n + k) h in
      let o : p - p % n + (p % n + k) % n - (p - p % n) ≡ (p % n + k) % n = omega arith in
      rw (aligned_inside (p - p % n + (p % n + k) % n) (omega arith) (omega arith), o)

-- two windows of the same words; their pointers may stand at different places
pub record SameRun (v w : Window) : Type 0 where
  pub start : v.start ≡ w.start
  pub size : v.size ≡ w.size

pub same_back : (v w : Window) → SameRun v w → SameRun w v
same_back v w k = search rules

pub aligned_same :
    (p n q : ℕ) → (aligned p n).start ≤ q → q < (aligned p n).start + n → SameRun (aligned q n) (aligned p n)
aligned_same p n q l h =
    let e = aligned_inside p n q l h in
    record { start = ap (λ (w : Window). w.start) e; size = aligned_size q n ∙ sym (aligned_size p n) }

-- "single. The window is the 32 words from the pointer": no place below its size wraps
pub place_single : (p n k : ℕ) → k < n → place_of (run_from p n) k ≡ p + k
unfolding place_of run_from
place_single p n k h = search rules

-- "Double: bit 5 of the pointer flips": the place half a window on has the other bit 5 and the same bits beside it
pub record Flipped (p q : ℕ) : Type 0 where
  pub below : q % 32 ≡ p % 32
  pub bit : q / 32 % 2 + p / 32 % 2 ≡ 1
  pub above : q / 64 ≡ p / 64

pub double_flips : (p : ℕ) → Flipped p (place_of (aligned p 64) 32)
unfolding place_of aligned
double_flips p = omega arith

-- "The pointer is a multiple of 32": the 32 words of a half never wrap
pub place_double : (p k : ℕ) → p % 32 ≡ 0 → k < 32 → place_of (aligned p 64) k ≡ p + k
unfolding place_of aligned
place_double p k h l = omega arith
