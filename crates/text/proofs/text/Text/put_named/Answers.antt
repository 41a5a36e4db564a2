-- `put_named` meets its contract.
use Rattle.text.specs.Line.{named_line}
use Rattle.text.proofs.Added.{adds_then}
use Rattle.text.proofs.text.Text.put_named.Goals as goal

pub returns : goal.returns
unfolding named_line
returns c = adds_then (adds_then c.put_bytes.ensures c.put_number.ensures) c.put_newline.ensures
