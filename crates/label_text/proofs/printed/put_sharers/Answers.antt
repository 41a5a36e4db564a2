-- `put_sharers` meets its contract. The loop's invariant: the lines of the cells so far are put.
use native.Mathlib.Omega.{arith}
use Rattle.label_text.proofs.Lines.{no_lines, add_line}
use Rattle.label_text.proofs.printed.put_sharers.Goals as goal

pub loop-other-init : goal.loop-other-init
loop-other-init c = no_lines _ (omega arith) (omega arith)

pub loop-other-preserved : goal.loop-other-preserved
loop-other-preserved c = add_line _ _ c.loop-other.other-index _ c.loop-other-test.true c.loop-other.invariant c.put_meeting.ensures
