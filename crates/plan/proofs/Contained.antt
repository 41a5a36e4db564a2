-- Where rule 5 leaves the pointer: inside its window, which stays the same window.
use Prim.Native.Nat.{ℕ, ◌+◌, ◌%◌, ◌≤◌, ◌<◌}
use native.Mathlib.Nat.{mod-eq_of_lt}
use native.Mathlib.Omega.{arith}
use mathlib.Core.Path.{◌≡◌, refl}
use mathlib.Core.Bool.{Bool, true, false, true≢false}
use Rattle.cells.specs.declared.cell.Scheme.{Scheme}
use Rattle.cells.specs.declared.cell.Scheme.TheVariants.{Single, Double}
use Rattle.windows.specs.Window.{place_of}
use Rattle.cells.specs.Cell.{window_of}
use Rattle.windows.proofs.Wrap.{place_from, place_below, SameRun, double_flips}
use Rattle.cells.proofs.Sizes.{Sized, window_nonempty, window_pointer, window_offset, window_kept}
use Rattle.plan.specs.Motion.{may_move, stride, moves, pointer_to, motion_with}

-- "Single: the pointer stays."
pub single_stays : (scheme : Scheme) (valid overwrite : Bool) (k : ℕ) → scheme ≡ Single → moves scheme valid overwrite k ≡ false
unfolding moves may_move
single_stays scheme valid overwrite k e = rw e

-- "Double: bit 5 of the pointer flips": it stays a multiple of 32
flips :
    (scheme : Scheme) (pointer k : ℕ) →
    scheme ≡ Double →
    pointer % 32 ≡ 0 →
    place_of (window_of scheme pointer) (stride scheme k) % 32 ≡ 0
unfolding window_of stride
flips scheme pointer k e h = rw e (omega (arith, (double_flips pointer).below))

pub record Contained (scheme : Scheme) (pointer after : ℕ) : Type 0 where
  pub from : (window_of scheme pointer).start ≤ after
  pub below : after < (window_of scheme pointer).start + (window_of scheme pointer).size
  pub same : SameRun (window_of scheme after) (window_of scheme pointer)
  pub multiple : scheme ≡ Double → pointer % 32 ≡ 0 → after % 32 ≡ 0

-- a place below 65536 is a pointer as it is
pub pointer_exact : (place : ℕ) → place < 65536 → pointer_to place ≡ place
pointer_exact place h = mod-eq_of_lt h

pub motion_contained :
    (scheme : Scheme) (pointer k : ℕ) (moved : Bool) →
    Sized scheme →
    (window_of scheme pointer).start + (window_of scheme pointer).size ≤ 65536 →
    (scheme ≡ Single → moved ≡ false) →
    Contained scheme pointer (motion_with scheme pointer (window_of scheme pointer) moved k).after
unfolding motion_with
motion_contained scheme pointer k false z fits n =
    let a = window_pointer scheme pointer in
    let b = window_offset scheme pointer z in
    record { from = omega arith; below = omega arith; same = record { start = refl; size = refl }; multiple = λ e h. h }
motion_contained scheme pointer k true z fits n =
    let w = window_of scheme pointer in
    let a = place_from w (stride scheme k) in
    let b = place_below w (stride scheme k) (window_nonempty scheme pointer z) in
    rw (pointer_exact (place_of w (stride scheme k)) (omega arith))
    (record {
      from = a;
      below = b;
      same = window_kept scheme pointer (place_of w (stride scheme k)) (λ e. true≢false (n e)) a b;
      multiple = flips scheme pointer k;
    })
