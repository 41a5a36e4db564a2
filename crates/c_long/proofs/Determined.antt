-- The inputs determine the answer and every lent word: for each public function, any two results that its contract
-- allows are equal. Each line speaks of the contract as the checker reads it (`Reads.Post`), so that none can drift
-- from its function.
use Rattle.words.proofs.Settled.{determined, Settled}
use Rattle.c_long.proofs.calls

pub read_long_settled : Settled 2 calls.solkverva_read_long.Kinds.ps calls.solkverva_read_long.Kinds.r calls.solkverva_read_long.Reads.Post
read_long_settled κs a x y v w p q = (determined p.0 q.0, λ i. (v.0, (determined p.1 q.1 i, v.1.1)))

pub write_long_settled : Settled 2 calls.solkverva_write_long.Kinds.ps calls.solkverva_write_long.Kinds.r calls.solkverva_write_long.Reads.Post
write_long_settled κs a x y v w p q = (determined p.0 q.0, λ i. (v.0, (determined p.1 q.1 i, v.1.1)))

pub longer_settled : Settled 2 calls.solkverva_longer.Kinds.ps calls.solkverva_longer.Kinds.r calls.solkverva_longer.Reads.Post
longer_settled κs a x y v w p q = (determined p.0 q.0, λ i. (v.0, (determined p.1 q.1 i, v.1.1)))

pub shorter_settled : Settled 2 calls.solkverva_shorter.Kinds.ps calls.solkverva_shorter.Kinds.r calls.solkverva_shorter.Reads.Post
shorter_settled κs a x y v w p q = (determined p.0 q.0, λ i. (v.0, (determined p.1 q.1 i, v.1.1)))
