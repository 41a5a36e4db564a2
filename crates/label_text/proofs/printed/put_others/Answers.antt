-- `put_others` meets its contract. The loop's invariant: the cells so far are named.
use native.Mathlib.Omega.{arith}
use Rattle.wording.specs.Wording.{also_text}
use Rattle.text.proofs.Added.{adds_then}
use Rattle.label_text.proofs.Lines.{no_lines, add_line}
use Rattle.label_text.proofs.printed.put_others.Goals as goal

pub loop-cell-init : goal.loop-cell-init
loop-cell-init c = no_lines also_text (omega arith) (omega arith)

pub loop-cell-preserved : goal.loop-cell-preserved
unfolding also_text
loop-cell-preserved c =
    add_line also_text _ c.loop-cell.cell-index 0 c.loop-cell-test.true c.loop-cell.invariant
    (adds_then c.put_bytes.ensures c.put_cell.ensures)
