-- The inputs determine the answer and every lent word: for each public function, any two results that its contract
-- allows are equal. Each line speaks of the contract as the checker reads it (`Reads.Post`), so that none can drift
-- from its function.
use Rattle.words.proofs.Settled.{determined, Settled}
use Rattle.who_replay.proofs.fill
use Rattle.who_replay.proofs.question

pub go_on_settled : Settled 2 question.go_on.Kinds.ps question.go_on.Kinds.r question.go_on.Reads.Post
go_on_settled κs a x y v w p q =
    let r = determined p q in (λ i. (r i).at, λ i. ((r i).ram, v.1))

pub ask_settled : Settled 2 question.ask.Kinds.ps question.ask.Kinds.r question.ask.Reads.Post
ask_settled κs a x y v w p q = (determined p.0 q.0, λ i. (determined p.1 q.1 i, v.1))

pub fill_settled : Settled 4 fill.fill.Kinds.ps fill.fill.Kinds.r fill.fill.Reads.Post
fill_settled κs a x y v w p q =
    let t = determined p.1 q.1 in (
      λ i. record { number = determined p.0 q.0 i; at = (t i).at },
      λ i. ((t i).ram, ((t i).numbers, ((t i).marks, v.1.1.1))),
    )
