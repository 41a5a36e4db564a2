-- The inputs determine the answer and every lent word: for each public function, any two results that its contract
-- allows are equal. Each line speaks of the contract as the checker reads it (`Reads.Post`), so that none can drift
-- from its function.
use mathlib.Core.Path.{refl}
use Rattle.words.proofs.Settled.{determined, Settled}
use Rattle.c_words_long.proofs.long_values

pub long_from_settled : Settled 1 long_values.long_from.Kinds.ps long_values.long_from.Kinds.r long_values.long_from.Reads.Post
long_from_settled κs a x y v w p q = (determined p q, refl)

pub put_long_settled : Settled 1 long_values.put_long.Kinds.ps long_values.put_long.Kinds.r long_values.put_long.Reads.Post
put_long_settled κs a x y v w p q = (refl, λ i. (determined p q i, v.1))
