-- The sizes of the windows that a control word gives, and that the window of a moved pointer is the same window.
use Rattle.std.proofs.Common.{rules}
use Prim.Native.Nat.{ℕ, ◌+◌, ◌≤◌, ◌<◌}
use native.Mathlib.Omega.{arith}
use mathlib.Core.Path.{◌≡◌, refl}
use mathlib.Core.Logic.{⊎_elim}
use mathlib.Core.Bool.{Bool, true, false, cond}
use mathlib.Core.List.{List}
use lib.Dec.{eqb}
use borrow.Author.Tests.{eqb-false}
use Rattle.words.specs.declared.settings.Area.{Area}
use Rattle.words.proofs.Basics.{yes_or_no}
use Rattle.memory.specs.declared.kind.Kind.{Kind}
use Rattle.cells.specs.declared.cell.Scheme.{Scheme}
use Rattle.cells.specs.declared.cell.Scheme.TheVariants.{Single, Double, Circular}
use Rattle.windows.specs.Window.{run_from, aligned}
use Rattle.cells.specs.Cell.{size_of, pick_scheme, lookup_at, cell_from, cell_at, window_of}
use Rattle.windows.proofs.Wrap.{aligned_pointer, aligned_offset, aligned_size, aligned_same, SameRun}

-- the schemes that a control word can give: a circular size is 64·2^m with m from 1 to 7
pub data Sized : Scheme → Type 0 where
  single : Sized Single
  double : Sized Double
  circular : (m : ℕ) → 1 ≤ m → m ≤ 7 → Sized (Circular (size_of m))

picked_sized : (m : ℕ) (d : Bool) → m ≤ 7 → Sized (pick_scheme m d)
unfolding pick_scheme
picked_sized m d h =
    ⊎_elim
    (λ (e : eqb m 0 ≡ true). rw e (plain d))
    (λ (e : eqb m 0 ≡ false). rw e (circular m (omega (arith, eqb-false m 0 e)) h))
    (yes_or_no (eqb m 0))
  where
    plain : (d : Bool) → Sized (cond d Double Single)
    plain true = double
    plain false = single

pub cell_sized : (ram : List ℕ) (area : Area) (kind : Kind) (sub : ℕ) → Sized (cell_at ram area kind sub).scheme
unfolding lookup_at cell_from cell_at
cell_sized ram area kind sub = picked_sized _ _ (omega arith)

-- so every window has room for the 32 words of a message
pub window_room : (s : Scheme) (p : ℕ) → Sized s → 32 ≤ (window_of s p).size
unfolding window_of run_from aligned
window_room s p single = omega arith
window_room s p double = omega arith
window_room s p (circular m l h) = search rules

pub window_nonempty : (s : Scheme) (p : ℕ) → Sized s → 0 < (window_of s p).size
window_nonempty s p z = omega (arith, window_room s p z)

-- the pointer stands at its offset
pub window_pointer : (s : Scheme) (p : ℕ) → (window_of s p).start + (window_of s p).offset ≡ p
unfolding window_of run_from
window_pointer Single p = omega arith
window_pointer Double p = aligned_pointer p 64
window_pointer (Circular n) p = aligned_pointer p n

pub window_offset : (s : Scheme) (p : ℕ) → Sized s → (window_of s p).offset < (window_of s p).size
unfolding window_of run_from
window_offset Single p z = omega arith
window_offset Double p z = rw aligned_size (aligned_offset p 64 (omega arith))
window_offset (Circular n) p z =
    let r : 32 ≤ n = rw aligned_size at (window_room (Circular n) p z) in
    rw aligned_size (aligned_offset p n (omega arith))

-- a double or circular pointer that moves inside its window keeps its window
pub window_kept :
    (s : Scheme) (p q : ℕ) → (s ≡ Single → ⊥) → (window_of s p).start ≤ q →
    q < (window_of s p).start + (window_of s p).size → SameRun (window_of s q) (window_of s p)
unfolding window_of
window_kept Single p q n l h = absurd (n refl)
window_kept Double p q n l h = aligned_same p 64 q l (rw aligned_size at h)
window_kept (Circular m) p q n l h = aligned_same p m q l (rw aligned_size at h)
