-- The inputs determine the answer: for each public function, any two results that its contract allows are equal, and so
-- are any two last values of each lent text. Each line speaks of the contract as the checker reads it (`Reads.Post`),
-- so that none can drift from its function.
use mathlib.Core.Path.{refl}
use Rattle.words.proofs.Settled.{Settled}
use Rattle.text.proofs.Added.{adds_settled}
use Rattle.wording.proofs.wording

pub put_kind_settled : Settled 2 wording.put_kind.Kinds.ps wording.put_kind.Kinds.r wording.put_kind.Reads.Post
put_kind_settled κs a x y v w p q = (refl, λ i. (adds_settled p q i, v.1))

pub put_refused_settled : Settled 2 wording.put_refused.Kinds.ps wording.put_refused.Kinds.r wording.put_refused.Reads.Post
put_refused_settled κs a x y v w p q = (refl, λ i. (adds_settled p q i, v.1))

pub put_cell_settled : Settled 2 wording.put_cell.Kinds.ps wording.put_cell.Kinds.r wording.put_cell.Reads.Post
put_cell_settled κs a x y v w p q = (refl, λ i. (adds_settled p q i, v.1))

pub put_meeting_settled : Settled 2 wording.put_meeting.Kinds.ps wording.put_meeting.Kinds.r wording.put_meeting.Reads.Post
put_meeting_settled κs a x y v w p q = (refl, λ i. (adds_settled p q i, v.1))
