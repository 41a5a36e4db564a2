-- `lasts_zero` meets its contract. The loop's invariant: `zero` tells whether those of the first `i` words that come
-- after `count` are zero.
use Prim.Native.Nat.{◌≤◌, max}
use mathlib.Core.Path.{◌≡◌}
use Rattle.records.specs.Value.{lasts_zero}
use Rattle.records.proofs.value.lasts_zero.Given as goal

abbrev pub invariant-loop-i : goal.invariant-loop-i
invariant-loop-i l = ((l.count ≤ l.i) × (l.i ≤ max l.count 32)) × (l.zero ≡ lasts_zero l.words l.count l.i)
