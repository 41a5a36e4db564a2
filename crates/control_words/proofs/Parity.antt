-- The ones of a word, counted bit by bit.
use Prim.Native.Nat.{ℕ, zero, suc, ◌/◌, ◌^◌, ◌<◌}
use native.Mathlib.Omega.{arith}
use mathlib.Core.Path.{◌≡◌, refl, ◌∙◌}
use lib.Count.{ones, ones_step}
use Rattle.control_words.specs.OpCode.{ones_below}

pub ones_below_lem : (n w : ℕ) → w < 2 ^ n → ones w ≡ ones_below n w
unfolding ones_below ones
ones_below_lem zero zero h = refl
ones_below_lem zero (suc w) h = omega arith
ones_below_lem (suc n) w h = ones_step w ∙ rw (ones_below_lem n (w / 2) (omega arith))
