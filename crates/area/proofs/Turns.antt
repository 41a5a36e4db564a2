-- What one more turn of the check's loop makes of its definition.
use Prim.Native.Nat.{ℕ, ◌+◌}
use native.Mathlib.Numerals.{add-one}
use mathlib.Core.Path.{◌≡◌}
use mathlib.Core.Bool.{Bool}
use Rattle.area.specs.Area.{or_else, lowest}

pub lowest_more : (bad : ℕ → Bool) (n : ℕ) → lowest bad (n + 1) ≡ or_else (lowest bad n) (bad n) n
unfolding lowest
lowest_more bad n = rw add-one
