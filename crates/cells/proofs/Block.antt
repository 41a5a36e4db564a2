-- What it tells that the stack is sound, as named facts and back again; and with a listed size, that the four words of
-- a descriptor lie in a row in the block, and that the pointer moved on by 4 is sound in the same block.
use Rattle.std.proofs.Common.{rules}
use Prim.Native.Nat.{ℕ, ◌+◌, ◌%◌, ◌≤◌, ◌<◌}
use native.Mathlib.Omega.{arith}
use native.Mathlib.Nat.{mod-lt, mod-le, mod-mod_of_dvd, dvd_of_mod-eq-zero}
use mathlib.Core.Path.{◌≡◌, ◌∙◌}
use mathlib.Core.Bool.{true, false}
use mathlib.Core.List.{List}
use lib.ListN.{length}
use borrow.Author.Tests.{lt-leb}
use Rattle.words.specs.declared.settings.Settings.{Settings}
use Rattle.words.specs.Settings.{settings_refused}
use Rattle.words.proofs.SettingsLaws.{settings_agreed}
use Rattle.windows.specs.Window.{aligned, place_of, rolls_over, meets_fixed}
use Rattle.cells.specs.Stack.{stack_pointer, stack_window, stack_sound}
use Rattle.windows.proofs.Wrap.{place_from, place_below, place_straight, aligned_pointer, aligned_size, aligned_same, SameRun}
use Rattle.windows.proofs.Meets.{Outside}
use Rattle.memory.proofs.Places.{OrdinaryAddress}
use Rattle.cells.proofs.Sound.{OffFixed, ordinary_address}

-- the sentence "The stack is sound if ..", fact by fact
pub record StackSound (ram : List ℕ) (s : Settings) : Type 0 where
  pub multiple : stack_pointer ram s % 4 ≡ 0
  pub pointer : stack_pointer ram s + 4 ≤ length ram
  pub inside : (stack_window ram s).start + (stack_window ram s).size ≤ length ram
  pub fixed : OffFixed (stack_window ram s)

module _ (ram : List ℕ) (s : Settings) where
  pub stack_sound_facts : stack_sound ram s ≡ true → StackSound ram s
  unfolding stack_sound meets_fixed
  stack_sound_facts e = search rules

  pub stack_facts_sound : StackSound ram s → stack_sound ram s ≡ true
  unfolding stack_sound meets_fixed
  stack_facts_sound f = search rules

-- every address of a sound stack's block is ordinary
pub stack_address :
    (ram : List ℕ) (s : Settings) → StackSound ram s → (x : ℕ) → (stack_window ram s).start ≤ x →
    x < (stack_window ram s).start + (stack_window ram s).size → OrdinaryAddress (length ram) x
stack_address ram s f = ordinary_address (length ram) (stack_window ram s) f.inside f.fixed

-- so the fixed areas lie outside it
module _ (ram : List ℕ) (s : Settings) (f : StackSound ram s) where
  pub tables_off : (a : ℕ) → 0x100 ≤ a → a < 0x248 → Outside (stack_window ram s) a
  tables_off a l h i j = (stack_address ram s f a i j).tables l h

  pub illegal_off : (a : ℕ) → 0x300 ≤ a → a < 0x400 → Outside (stack_window ram s) a
  illegal_off a l h i j = (stack_address ram s f a i j).illegal l h

-- what is used of the listed sizes
pub record WholeEntries (n : ℕ) : Type 0 where
  pub some : 0 < n
  pub fours : n % 4 ≡ 0

pub size_whole : (s : Settings) → settings_refused s ≡ false → WholeEntries s.stack_size
size_whole s h = grind (arith, settings_agreed s h)

-- the stack pointer's offset in a block of n words: a multiple of 4
pub record Offset (n o : ℕ) : Type 0 where
  pub below : o < n
  pub fours : o % 4 ≡ 0

module _ (n : ℕ) (z : WholeEntries n) where
  pub offset_of : (p : ℕ) → p % 4 ≡ 0 → Offset n (p % n)
  offset_of p m =
      record { below = mod-lt p z.some; fours = mod-mod_of_dvd 4 p (dvd_of_mod-eq-zero 4 z.fours) ∙ m }

  -- four words fit behind it
  pub entry_fits : (o : ℕ) → Offset n o → o + 4 ≤ n
  entry_fits o h = search rules

module _ (p n : ℕ) (m : p % 4 ≡ 0) (z : WholeEntries n) where
  pointer_fits : (aligned p n).offset + 4 ≤ (aligned p n).size
  unfolding aligned
  pointer_fits = entry_fits n z (p % n) (offset_of n z p m)

  -- the four words of a descriptor stand in a row
  entry_straight : (k : ℕ) → k < 4 → place_of (aligned p n) k ≡ p + k
  unfolding rolls_over
  entry_straight k h =
      let l : (aligned p n).offset + k < (aligned p n).size = omega (arith, pointer_fits) in
      place_straight (aligned p n) k (lt-leb _ _ l) ∙ omega (arith, aligned_pointer p n)

  -- the pointer moved on by 4 is a multiple of 4
  entry_next : place_of (aligned p n) 4 % 4 ≡ 0
  unfolding place_of aligned
  entry_next =
      let o = (offset_of n z p m).fours in
      omega (arith, o, (offset_of n z (p % n + 4) (omega (arith, o))).fours, mod-le p n)

  -- and the block around it is the same block
  entry_same : SameRun (aligned (place_of (aligned p n) 4) n) (aligned p n)
  entry_same =
      let b = place_below (aligned p n) 4 (rw aligned_size z.some) in
      aligned_same p n (place_of (aligned p n) 4) (place_from (aligned p n) 4) (omega (arith, b, aligned_size p n))

  -- with room for four words behind it
  entry_room : p + 4 ≤ (aligned p n).start + (aligned p n).size
  entry_room = omega (arith, pointer_fits, aligned_pointer p n)

-- what the message needs of a sound stack of a listed size
module _ (ram : List ℕ) (s : Settings) (agreed : settings_refused s ≡ false) (f : StackSound ram s) where
  pub stack_nonempty : 0 < (stack_window ram s).size
  unfolding stack_window
  stack_nonempty = rw aligned_size (size_whole s agreed).some

  -- the four words of a descriptor stand in a row from the stack pointer on
  pub stack_word_lem : (k : ℕ) → k < 4 → place_of (stack_window ram s) k ≡ stack_pointer ram s + k
  unfolding stack_window
  stack_word_lem = entry_straight (stack_pointer ram s) s.stack_size f.multiple (size_whole s agreed)

  -- in the block
  pub stack_word_from : (k : ℕ) → k < 4 → (stack_window ram s).start ≤ stack_pointer ram s + k
  stack_word_from k h = omega (arith, stack_word_lem k h, place_from (stack_window ram s) k)

  pub stack_word_below : (k : ℕ) → k < 4 → stack_pointer ram s + k < (stack_window ram s).start + (stack_window ram s).size
  stack_word_below k h = omega (arith, stack_word_lem k h, place_below (stack_window ram s) k stack_nonempty)

  -- "The stack pointer moves on by 4, wrapping": it is a multiple of 4 again
  pub stack_next_multiple : place_of (stack_window ram s) 4 % 4 ≡ 0
  unfolding stack_window
  stack_next_multiple = entry_next (stack_pointer ram s) s.stack_size f.multiple (size_whole s agreed)

  -- in the same block
  pub stack_next_same : SameRun (aligned (place_of (stack_window ram s) 4) s.stack_size) (stack_window ram s)
  unfolding stack_window
  stack_next_same = entry_same (stack_pointer ram s) s.stack_size f.multiple (size_whole s agreed)

  -- so the stack of a RAM that differs in the stack pointer's move alone, as far as the stack asks, is sound in the
  -- same block
  pub stack_moved_same :
      (after : List ℕ) → stack_pointer after s ≡ place_of (stack_window ram s) 4 →
      SameRun (stack_window after s) (stack_window ram s)
  unfolding stack_window
  stack_moved_same after e = rw e stack_next_same

  pub stack_moved :
      (after : List ℕ) → length after ≡ length ram → stack_pointer after s ≡ place_of (stack_window ram s) 4 →
      StackSound after s
  unfolding stack_window
  stack_moved after l e =
      let k = stack_moved_same after e in
      let m : stack_pointer after s % 4 ≡ 0 = rw e stack_next_multiple in
      let h = entry_room (stack_pointer after s) s.stack_size m (size_whole s agreed) in
      record {
        multiple = m;
        pointer = omega (arith, h, k.start, k.size, f.inside, l);
        inside = rw (k.start, k.size, l) f.inside;
        fixed = record { tables = rw (k.start, k.size) f.fixed.tables; illegal = rw (k.start, k.size) f.fixed.illegal };
      }
