-- `put_tail` meets its contract. No tail puts nothing.
use native.Mathlib.Omega.{arith}
use borrow.Author.Tests.{eq-eqb}
use Rattle.trace_ends.specs.LastLines.{tail_line}
use Rattle.text.proofs.Added.{adds_none}
use Rattle.trace_ends.proofs.last_lines.put_tail.Goals as goal

pub returns-else-tail-ne0 : goal.returns-else-tail-ne0
unfolding tail_line
returns-else-tail-ne0 c = simp (eq-eqb _ _ c.if-tail-ne0.false) (adds_none (omega arith) (omega arith))
