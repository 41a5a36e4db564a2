-- The inputs determine the answer and every lent word: for each public function, any two results that its contract
-- allows are equal. Each line speaks of the contract as the checker reads it (`Reads.Post`), so that none can drift
-- from its function.
use Rattle.words.proofs.Settled.{determined, Settled}
use Rattle.c_who.proofs.origins

pub who_fill_settled :
    Settled 7 origins.solkverva_who_fill.Kinds.ps origins.solkverva_who_fill.Kinds.r origins.solkverva_who_fill.Reads.Post
who_fill_settled κs a x y v w p q =
    let lent = determined p.1 q.1 in (
      determined p.0 q.0,
      λ i. (
        (lent i).ram,
        ((lent i).numbers, ((lent i).marks, (v.1.1.1.0, ((lent i).remembered, ((lent i).records, v.1.1.1.1.1.1))))),
      ),
    )

pub who_entry_settled :
    Settled 4 origins.solkverva_who_entry.Kinds.ps origins.solkverva_who_entry.Kinds.r origins.solkverva_who_entry.Reads.Post
who_entry_settled κs a x y v w p q = (
  determined p.0 q.0,
  λ i. (
    v.0,
    (v.1.0, (v.1.1.0, (determined p.1.0 q.1.0 i, (determined p.1.1 q.1.1 i, v.1.1.1.1.1)))),
  ),
)

pub who_settled : Settled 5 origins.solkverva_who.Kinds.ps origins.solkverva_who.Kinds.r origins.solkverva_who.Reads.Post
who_settled κs a x y v w p q = (
  determined p.0 q.0,
  λ i. (
    determined p.1.0 q.1.0 i,
    (
      v.1.0,
      (
        v.1.1.0,
        (
          v.1.1.1.0,
          (determined p.1.1.0 q.1.1.0 i, (determined p.1.1.1 q.1.1.1 i, v.1.1.1.1.1.1)),
        ),
      ),
    ),
  ),
)
