-- `answer_listing` meets its contract.
use Rattle.std.proofs.Common.{arith}
use Rattle.label.proofs.Turns.{listed_more, listed_told}
use Rattle.label.proofs.one.answer_listing.Goals as goal

pub loop-place-preserved : goal.loop-place-preserved
loop-place-preserved c =
    rw (c.sharer_numbered.ensures, c.loop-place.invariant) (listed_more _ _ _ c.loop-place.place (omega arith))

pub returns : goal.returns
returns c = listed_told _ _ _ _ (omega arith) c.loop-place.invariant
