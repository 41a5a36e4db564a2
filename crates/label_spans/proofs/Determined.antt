-- The inputs determine the answer and every lent word: for each public function, any two results that its contract
-- allows are equal, and so are any two last values of each lent word. Each line speaks of the contract as the checker
-- reads it (`Reads.Post`), so that none can drift from its function.
use mathlib.Core.Path.{refl}
use Rattle.words.proofs.Settled.{determined, Settled}
use Rattle.label_spans.proofs.ByKind.{spans_same}
use Rattle.label_spans.proofs.span

pub spans_meet_settled : Settled 0 span.spans_meet.Kinds.ps span.spans_meet.Kinds.r span.spans_meet.Reads.Post
spans_meet_settled κs a x y v w p q = (determined p q, refl)

-- a lent table
pub read_spans_settled : Settled 2 span.read_spans.Kinds.ps span.read_spans.Kinds.r span.read_spans.Reads.Post
read_spans_settled κs a x y v w p q =
    (refl, λ i. (v.0, (v.1.0, (spans_same _ _ (determined p.0 q.0) (determined p.1 q.1) i, v.1.1.1))))
