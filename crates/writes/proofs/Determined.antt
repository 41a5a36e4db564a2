-- The inputs determine every lent word: for each public function, any two results that its contract allows are equal.
-- Each line speaks of the contract as the checker reads it (`Reads.Post`), so that none can drift from its function.
-- The inputs determine the answer and every lent word: for each public function, any two results that its contract
-- allows are equal. Each line speaks of the contract as the checker reads it (`Reads.Post`), so that none can drift
-- from its function.
use mathlib.Core.Path.{refl}
use Rattle.words.proofs.Settled.{determined, Settled}
use Rattle.writes.proofs.send
use Rattle.writes.proofs.store
use Rattle.writes.proofs.carry
use Rattle.writes.proofs.reply

pub store_words_settled : Settled 1 store.store_words.Kinds.ps store.store_words.Kinds.r store.store_words.Reads.Post
store_words_settled κs a x y v w p q = (refl, λ i. (determined p q i, v.1))

pub send_words_settled : Settled 2 send.send_words.Kinds.ps send.send_words.Kinds.r send.send_words.Reads.Post
send_words_settled κs a x y v w p q = (refl, λ i. (v.0, (determined p q i, v.1.1)))

pub carry_out_settled : Settled 1 carry.carry_out.Kinds.ps carry.carry_out.Kinds.r carry.carry_out.Reads.Post
carry_out_settled κs a x y v w p q = (refl, λ i. (determined p q i, v.1))

pub send_settled : Settled 2 reply.send.Kinds.ps reply.send.Kinds.r reply.send.Reads.Post
send_settled κs a x y v w p q = (refl, λ i. (v.0, (determined p q i, v.1.1)))
