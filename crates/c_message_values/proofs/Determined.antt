-- The inputs determine the answer and every lent word: for each public function, any two results that its contract
-- allows are equal. Each line speaks of the contract as the checker reads it (`Reads.Post`), so that none can drift
-- from its function.
use Rattle.words.proofs.Settled.{determined, Settled}
use Rattle.c_message_values.proofs.from_value

pub message_value_settled :
    Settled 6 from_value.solkverva_message_value.Kinds.ps from_value.solkverva_message_value.Kinds.r from_value.solkverva_message_value.Reads.Post
message_value_settled κs a x y v w p q =
    let lent = determined p.1 q.1 in (
      determined p.0 q.0,
      λ i. ((lent i).ram, ((lent i).reply, (v.1.1.0, ((lent i).remembered, (v.1.1.1.1.0, ((lent i).answer, v.1.1.1.1.1.1)))))),
    )
