-- Rule 5: where the cell's pointer goes.
use Rattle.std.specs.Prelude.{ℕ, ◌%◌, Bool, true, false, not, cond, ◌&&◌, ◌||◌, ltb}
use Rattle.words.specs.declared.settings.Settings.{Settings}
use Rattle.cells.specs.declared.cell.Scheme.{Scheme}
use Rattle.cells.specs.declared.cell.Scheme.TheVariants.{Single, Double, Circular}
use Rattle.windows.specs.declared.window.Window.{Window}
use Rattle.windows.specs.Window.{place_of, rolls_over}
use Rattle.lookup.specs.declared.target.Target.{Target}
use Rattle.plan.specs.declared.act.Act.{Act}
use Rattle.plan.specs.declared.motion.Motion.{Motion}

-- "Single: the pointer stays." "Double: .. flips if valid ..". "Circular: .. if valid or overwrite-invalid is off."
unfoldable pub may_move : Scheme → Bool → Bool → Bool
may_move Single valid overwrite = false
may_move Double valid overwrite = valid
may_move (Circular size) valid overwrite = valid || not overwrite

-- how far the pointer goes when it moves: "bit 5 of the pointer flips" is 32 places on in a window of 64;
-- "the pointer moves on by k"
unfoldable pub stride : Scheme → ℕ → ℕ
stride Single k = 0
stride Double k = 32
stride (Circular size) k = k

abbrev pub is_circular : Scheme → Bool
is_circular Single = false
is_circular Double = false
is_circular (Circular size) = true

-- the pointer moves or flips, with k > 0: a circular pointer that moves on by 0 stays where it is
unfoldable pub moves : Scheme → Bool → Bool → ℕ → Bool
moves scheme valid overwrite k = may_move scheme valid overwrite && ltb 0 k

-- a pointer is a word of RAM, of 16 bits; a place of a sound cell's window is one
abbrev pub pointer_to : ℕ → ℕ
pointer_to place = place % 65536

unfoldable pub motion_with : Scheme → ℕ → Window → Bool → ℕ → Motion
motion_with scheme pointer w moved k =
    record {
      moves = moved;
      after = cond moved (pointer_to (place_of w (stride scheme k))) pointer;
      -- "Rollover: it moved and offset + k reached or passed the size."
      rollover = (is_circular scheme && moved) && rolls_over w k;
    }

-- rule 5 for the cell and what was stored or sent
unfoldable pub motion_of : Settings → Target → Act → Motion
motion_of s t a =
    motion_with t.cell.scheme t.cell.pointer t.window
    (moves t.cell.scheme a.valid s.overwrite_invalid a.k)
    a.k
