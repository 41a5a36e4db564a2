-- `put_refused` meets its contract.
use Rattle.text.proofs.Added.{adds_then}
use Rattle.wording.specs.Wording.{refused_line}
use Rattle.wording.proofs.wording.put_refused.Goals as goal

pub returns : goal.returns
unfolding refused_line
returns c =
    let number = rw c.from.ensures at c.put_number.ensures in
    adds_then
    (adds_then (adds_then (adds_then c.put_bytes.ensures number) c.put_bytes-2.ensures) c.put_reason.ensures)
    c.put_newline.ensures
