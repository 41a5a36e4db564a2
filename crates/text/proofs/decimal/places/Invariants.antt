-- `places` meets its contract. The loop's invariant: the digits counted and those of the rest are the number's, and one more.
use Prim.Native.Nat.{◌+◌}
use mathlib.Core.Path.{◌≡◌}
use lib.ListN.{length}
use Rattle.text.specs.Text.{decimal_text}
use Rattle.text.proofs.decimal.places.Given as goal

abbrev pub invariant-loop-rest : goal.invariant-loop-rest
invariant-loop-rest l = l.count + length (decimal_text l.rest) ≡ 1 + length (decimal_text l.initial.n)

abbrev pub decreases-loop-rest : goal.decreases-loop-rest
decreases-loop-rest l = l.rest
