-- `copy_run` meets its contract: one word more is one write more.
use borrow.Author.Rules.{rules}
use Rattle.memory.proofs.Writes.{apply_more}
use Rattle.writes.proofs.runs.copy_run.Goals as goal

pub loop-k-preserved : goal.loop-k-preserved
loop-k-preserved c = (search rules, rw (apply_more, ← c.loop-k.invariant.1))
