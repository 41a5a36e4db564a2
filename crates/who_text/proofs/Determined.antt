-- The inputs determine the answer: for each public function, any two results that its contract allows are equal, and so
-- are any two last values of each lent word, and of a lent text. Each line speaks of the contract as the checker reads it
-- (`Reads.Post`), so that none can drift from its function.
use mathlib.Core.Path.{refl}
use Rattle.words.proofs.Settled.{determined, Settled}
use Rattle.text.proofs.Added.{adds_settled}
use Rattle.who_text.proofs.Asked.{asked_same}
use Rattle.who_text.proofs.address
use Rattle.who_text.proofs.line

pub put_who_line_settled : Settled 2 line.put_who_line.Kinds.ps line.put_who_line.Kinds.r line.put_who_line.Reads.Post
put_who_line_settled κs a x y v w p q = (refl, λ i. (adds_settled p q i, v.1))

pub read_address_settled : Settled 1 address.read_address.Kinds.ps address.read_address.Kinds.r address.read_address.Reads.Post
read_address_settled κs a x y v w p q = (asked_same x y (determined p q), λ i. v)
