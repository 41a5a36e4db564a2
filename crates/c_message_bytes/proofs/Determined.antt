-- The inputs determine the answer and every lent word: for each public function, any two results that its contract
-- allows are equal. Each line speaks of the contract as the checker reads it (`Reads.Post`), so that none can drift
-- from its function.
use Rattle.words.proofs.Settled.{determined, Settled}
use Rattle.c_message_bytes.proofs.from_bytes

pub message_settled : Settled 6 from_bytes.solkverva_message.Kinds.ps from_bytes.solkverva_message.Kinds.r from_bytes.solkverva_message.Reads.Post
message_settled κs a x y v w p q =
    let lent = determined p.1 q.1 in (
      determined p.0 q.0,
      λ i. ((lent i).ram, ((lent i).reply, (v.1.1.0, ((lent i).remembered, (v.1.1.1.1.0, ((lent i).answer, v.1.1.1.1.1.1)))))),
    )
