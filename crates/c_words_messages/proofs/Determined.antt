-- The inputs determine the answer and every lent word: for each public function, any two results that its contract
-- allows are equal. Each line speaks of the contract as the checker reads it (`Reads.Post`), so that none can drift
-- from its function.
use mathlib.Core.Path.{refl}
use Rattle.words.proofs.Settled.{determined, Settled}
use Rattle.c_words_messages.proofs.answers
use Rattle.c_words_messages.proofs.values

pub value_from_settled : Settled 1 values.value_from.Kinds.ps values.value_from.Kinds.r values.value_from.Reads.Post
value_from_settled κs a x y v w p q = (determined p q, refl)

pub put_value_settled : Settled 1 values.put_value.Kinds.ps values.put_value.Kinds.r values.put_value.Reads.Post
put_value_settled κs a x y v w p q = (refl, λ i. (determined p q i, v.1))

pub hand_back_settled : Settled 2 answers.hand_back.Kinds.ps answers.hand_back.Kinds.r answers.hand_back.Reads.Post
hand_back_settled κs a x y v w p q = (determined p.0 q.0, λ i. (determined p.1.0 q.1.0 i, (determined p.1.1 q.1.1 i, v.1.1)))
