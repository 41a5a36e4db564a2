-- What it tells that a cell is sound, as named facts and back again, and what follows for each place of its window.
use Rattle.std.proofs.Common.{rules}
use Prim.Native.Nat.{ℕ, ◌+◌, ◌%◌, ◌^◌, ◌≤◌, ◌<◌}
use native.Mathlib.Omega.{arith}
use mathlib.Core.Path.{◌≡◌, refl}
use mathlib.Core.Bool.{true, false}
use lib.Pow.{pow_mono}
use borrow.Author.Tests.{eqb-true, eq-eqb}
use Rattle.cells.specs.declared.cell.Scheme.{Scheme}
use Rattle.cells.specs.declared.cell.Scheme.TheVariants.{Single, Double, Circular}
use Rattle.cells.specs.declared.cell.Cell.{Cell}
use Rattle.windows.specs.declared.window.Window.{Window}
use Rattle.windows.specs.Window.{aligned, place_of, meets, meets_fixed, windows_meet}
use Rattle.cells.specs.Cell.{size_of, double_fits, window_of, cell_window, sound_cell}
use Rattle.windows.proofs.Wrap.{place_from, place_below, SameRun}
use Rattle.memory.proofs.Places.{OrdinaryAddress}
use Rattle.cells.proofs.Sizes.{Sized, window_nonempty}

-- the window meets no fixed area
pub record OffFixed (w : Window) : Type 0 where
  pub tables : meets w.start w.size 0x100 0x148 ≡ false
  pub illegal : meets w.start w.size 0x300 0x100 ≡ false

pub fixed_off : (w : Window) → meets_fixed w ≡ false → OffFixed w
unfolding meets_fixed
fixed_off w e = search rules

pub off_fixed : (w : Window) → OffFixed w → meets_fixed w ≡ false
unfolding meets_fixed
off_fixed w f = search rules

-- "a double pointer is a multiple of 32"
pub double_multiple : (s : Scheme) (p : ℕ) → double_fits s p ≡ true → s ≡ Double → p % 32 ≡ 0
unfolding double_fits
double_multiple s p h e = eqb-true (p % 32) 0 (rw e at h)

pub multiple_double : (s : Scheme) (p : ℕ) → (s ≡ Double → p % 32 ≡ 0) → double_fits s p ≡ true
unfolding double_fits
multiple_double Single p h = refl
multiple_double Double p h = eq-eqb (p % 32) 0 (h refl)
multiple_double (Circular n) p h = refl

-- the sentence "A cell is sound if ..", fact by fact; `block` is the stack's window
pub record CellSound (words : ℕ) (block : Window) (c : Cell) : Type 0 where
  pub pointer : c.pointer < words
  pub inside : (cell_window c).start + (cell_window c).size ≤ words
  pub double : c.scheme ≡ Double → c.pointer % 32 ≡ 0
  pub fixed : OffFixed (cell_window c)
  pub stack : windows_meet (cell_window c) block ≡ false

module _ (words : ℕ) (block : Window) (c : Cell) where
  pub sound_cell_facts : sound_cell words block c ≡ true → CellSound words block c
  unfolding sound_cell meets_fixed double_fits
  sound_cell_facts e = search rules

  pub cell_facts_sound : CellSound words block c → sound_cell words block c ≡ true
  unfolding sound_cell meets_fixed double_fits
  cell_facts_sound f = search rules

-- a circle as large as RAM is never sound: its window would be all of RAM, and the fixed areas are in it
pub never_sound :
    (words : ℕ) (block : Window) (c : Cell) (m : ℕ) → 0x400 ≤ words → words ≤ size_of m → c.scheme ≡ Circular (size_of m) →
    sound_cell words block c ≡ false
unfolding window_of aligned sound_cell meets_fixed meets
never_sound words block c m h l e = search rules

-- "So m = 6 and 7 are never sound here."
pub never_sound_here :
    (block : Window) (c : Cell) (m : ℕ) → 6 ≤ m → c.scheme ≡ Circular (size_of m) → sound_cell 4096 block c ≡ false
never_sound_here block c m h e =
    let p : 2 ^ 6 ≤ 2 ^ m = pow_mono h in
    never_sound 4096 block c m (omega arith) (omega arith) e

pub ordinary_address :
    (words : ℕ) (w : Window) → w.start + w.size ≤ words → OffFixed w → (x : ℕ) → w.start ≤ x →
    x < w.start + w.size → OrdinaryAddress words x
unfolding meets
ordinary_address words w i f x l h = search rules

-- an ordinary address that is not in the stack's block
pub record FreeAddress (words : ℕ) (block : Window) (x : ℕ) : Type 0 where
  pub ordinary : OrdinaryAddress words x
  pub stack : block.start ≤ x → x < block.start + block.size → ⊥

module _ (words : ℕ) (block : Window) (c : Cell) (f : CellSound words block c) where
  -- every address of a sound cell's window is free
  pub sound_address :
      (x : ℕ) → (cell_window c).start ≤ x → x < (cell_window c).start + (cell_window c).size →
      FreeAddress words block x
  unfolding meets
  sound_address x l h = search rules

  -- so every place is
  pub sound_place : Sized c.scheme → (k : ℕ) → FreeAddress words block (place_of (cell_window c) k)
  sound_place z k =
      sound_address (place_of (cell_window c) k) (place_from (cell_window c) k)
      (place_below (cell_window c) k (window_nonempty c.scheme c.pointer z))

  -- the stack's pointer may move in its block
  pub sound_block : (other : Window) → SameRun other block → CellSound words other c
  sound_block other e = search rules

-- a cell whose window is the same, with the pointer in it, is as sound
pub sound_same :
    (long : ℕ) (block : Window) (c d : Cell) →
    CellSound long block c →
    d.scheme ≡ c.scheme →
    SameRun (cell_window d) (cell_window c) →
    d.pointer < (cell_window c).start + (cell_window c).size →
    (c.scheme ≡ Double → d.pointer % 32 ≡ 0) →
    CellSound long block d
sound_same long block c d f e k l m = search rules
