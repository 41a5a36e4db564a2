-- The inputs determine the answer: for each public function, any two results that its contract allows are equal, and so
-- are any two last values of each lent word. Each line speaks of the contract as the checker reads it (`Reads.Post`),
-- so that none can drift from its function.
use Rattle.words.proofs.Settled.{determined, Settled}
use Rattle.label_text.proofs.printed

pub put_area_text_settled : Settled 2 printed.put_area_text.Kinds.ps printed.put_area_text.Kinds.r printed.put_area_text.Reads.Post
put_area_text_settled κs a x y v w p q =
    (determined p.length q.length, λ i. (determined p.bytes q.bytes i, v.1))

pub put_cell_text_settled : Settled 2 printed.put_cell_text.Kinds.ps printed.put_cell_text.Kinds.r printed.put_cell_text.Reads.Post
put_cell_text_settled κs a x y v w p q =
    (determined p.length q.length, λ i. (determined p.bytes q.bytes i, v.1))
