-- `store_each` meets its contract. The loop's invariant: the first `k` writes are made.
use mathlib.Core.Path.{◌≡◌}
use Rattle.memory.specs.Writes.{apply_writes}
use Rattle.writes.specs.Copies.{data_writes}
use Rattle.writes.proofs.store.store_each.Given as goal

abbrev pub invariant-loop-k : goal.invariant-loop-k
invariant-loop-k l = l.ram ≡ apply_writes (data_writes l.w l.words l.k) l.initial.ram
