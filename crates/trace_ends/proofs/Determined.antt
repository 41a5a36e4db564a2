-- The inputs determine the answer: for each public function, any two results that its contract allows are equal, and so
-- are any two last values of each lent word, and of a lent text. Each line speaks of the contract as the checker reads it
-- (`Reads.Post`), so that none can drift from its function.
use mathlib.Core.Path.{refl}
use Rattle.words.proofs.Settled.{determined, Settled}
use Rattle.text.proofs.Added.{adds_settled}
use Rattle.trace_ends.proofs.image
use Rattle.trace_ends.proofs.last_lines

pub load_image_settled : Settled 2 image.load_image.Kinds.ps image.load_image.Kinds.r image.load_image.Reads.Post
load_image_settled κs a x y v w p q = (refl, λ i. (determined p q i, v.1))

pub put_last_lines_settled : Settled 1 last_lines.put_last_lines.Kinds.ps last_lines.put_last_lines.Kinds.r last_lines.put_last_lines.Reads.Post
put_last_lines_settled κs a x y v w p q =
    (determined p.length q.length, λ i. (determined p.bytes q.bytes i, v.1))

pub put_image_line_settled : Settled 1 image.put_image_line.Kinds.ps image.put_image_line.Kinds.r image.put_image_line.Reads.Post
put_image_line_settled κs a x y v w p q =
    (determined p.length q.length, λ i. (determined p.bytes q.bytes i, v.1))

pub put_tail_settled : Settled 2 last_lines.put_tail.Kinds.ps last_lines.put_tail.Kinds.r last_lines.put_tail.Reads.Post
put_tail_settled κs a x y v w p q = (refl, λ i. (adds_settled p q i, v.1))

pub put_end_settled : Settled 2 last_lines.put_end.Kinds.ps last_lines.put_end.Kinds.r last_lines.put_end.Reads.Post
put_end_settled κs a x y v w p q = (refl, λ i. (adds_settled p q i, v.1))

pub put_image_settled : Settled 2 image.put_image.Kinds.ps image.put_image.Kinds.r image.put_image.Reads.Post
put_image_settled κs a x y v w p q = (refl, λ i. (adds_settled p q i, v.1))
