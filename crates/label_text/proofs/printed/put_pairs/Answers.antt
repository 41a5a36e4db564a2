-- `put_pairs` meets its contract. The loop's invariant: the lines of the pairs so far are put.
use native.Mathlib.Omega.{arith}
use Rattle.label_text.specs.Printed.{word_line}
use Rattle.label_text.proofs.Lines.{no_lines, add_line}
use Rattle.label_text.proofs.printed.put_pairs.Goals as goal

pub loop-pair-init : goal.loop-pair-init
loop-pair-init c = no_lines word_line (omega arith) (omega arith)

pub loop-pair-preserved : goal.loop-pair-preserved
loop-pair-preserved c =
    let line =
    rw (c.sharer_numbered-in-loop-pair.ensures, c.sharer_numbered.ensures) at c.put_meeting.ensures in
    add_line word_line _ c.loop-pair.pair-index 0 c.loop-pair-test.true c.loop-pair.invariant line
