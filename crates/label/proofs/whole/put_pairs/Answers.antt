-- `put_pairs` meets its contract.
use Rattle.std.proofs.Common.{arith}
use Rattle.label.proofs.Turns.{no_rows, rows_put, rows_small}
use Rattle.label.proofs.whole.put_pairs.Goals as goal

pub loop-lower-init : goal.loop-lower-init
loop-lower-init c = no_rows _ _ _

pub put_pairs_with-used-requires : goal.put_pairs_with-used-requires
put_pairs_with-used-requires c =
    ((omega arith, omega arith), rows_small _ _ c.loop-lower.lower _ _ _ c.loop-lower.invariant (omega arith) (omega arith))

pub loop-lower-preserved : goal.loop-lower-preserved
loop-lower-preserved c =
    rows_put _ _ _ _ _ _ c.loop-lower.invariant _ _ c.put_pairs_with-used.ensures.words c.put_pairs_with-used.ensures.next
