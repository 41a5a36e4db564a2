-- `put_last_lines` meets its contract.
use native.Mathlib.Omega.{arith}
use borrow.Author.Rules.{rules}
use mathlib.Core.Path.{refl}
use Rattle.trace_ends.specs.LastLines.{last_lines}
use Rattle.text.proofs.Added.{adds_then, adds_first}
use Rattle.trace_ends.proofs.Lengths.{last_most}
use Rattle.trace_ends.proofs.last_lines.put_last_lines.Goals as goal

pub returns : goal.returns
unfolding last_lines
returns c =
    let given = c.args in
    adds_first {xs = last_lines given.tail given.number} (adds_then c.put_tail.ensures c.put_end.ensures)
    (search rules)
    (search rules)
    refl
    (omega (arith, last_most given.tail given.number))
