-- `put_origin` meets its contract.
use Rattle.text.proofs.Added.{adds_then}
use Rattle.who_text.specs.Line.{origin_line}
use Rattle.who_text.proofs.line.put_origin.Goals as goal

pub returns : goal.returns
unfolding origin_line
returns c =
    adds_then
    (adds_then (adds_then (adds_then c.put_bytes.ensures c.put_number.ensures) c.put_bytes-2.ensures) c.put_part.ensures)
    c.put_newline.ensures
