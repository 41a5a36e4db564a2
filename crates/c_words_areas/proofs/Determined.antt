-- The inputs determine the answer and every lent word: for each public function, any two results that its contract
-- allows are equal. Each line speaks of the contract as the checker reads it (`Reads.Post`), so that none can drift
-- from its function.
use mathlib.Core.Path.{refl}
use Rattle.words.proofs.Settled.{determined, Settled}
use Rattle.c_words_areas.proofs.checks
use Rattle.c_words_areas.proofs.descriptions
use Rattle.c_words_areas.proofs.labels

pub check_word_settled : Settled 0 checks.check_word.Kinds.ps checks.check_word.Kinds.r checks.check_word.Reads.Post
check_word_settled κs a x y v w p q = (determined p q, refl)

pub put_found_settled : Settled 2 labels.put_found.Kinds.ps labels.put_found.Kinds.r labels.put_found.Reads.Post
put_found_settled κs a x y v w p q = (refl, λ i. (determined p q i, v.1))

pub put_counts_settled : Settled 1 labels.put_counts.Kinds.ps labels.put_counts.Kinds.r labels.put_counts.Reads.Post
put_counts_settled κs a x y v w p q = (refl, λ i. (determined p q i, v.1))

pub put_cell_settled : Settled 1 descriptions.put_cell.Kinds.ps descriptions.put_cell.Kinds.r descriptions.put_cell.Reads.Post
put_cell_settled κs a x y v w p q = (refl, λ i. (determined p q i, v.1))

pub put_stack_settled : Settled 1 descriptions.put_stack.Kinds.ps descriptions.put_stack.Kinds.r descriptions.put_stack.Reads.Post
put_stack_settled κs a x y v w p q = (refl, λ i. (determined p q i, v.1))
