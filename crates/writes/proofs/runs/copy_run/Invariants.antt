-- `copy_run` meets its contract. The loop's invariant: the first `k` words are copied.
use mathlib.Core.Path.{◌≡◌}
use lib.ListN.{length}
use Rattle.memory.specs.Writes.{apply_writes}
use Rattle.writes.specs.Runs.{run_writes}
use Rattle.writes.proofs.runs.copy_run.Given as goal

abbrev pub invariant-loop-k : goal.invariant-loop-k
invariant-loop-k l =
    (length l.to ≡ length l.initial.to) × (l.to ≡ apply_writes (run_writes l.at l.from l.first l.k) l.initial.to)
