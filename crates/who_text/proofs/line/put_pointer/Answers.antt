-- `put_pointer` meets its contract.
use Rattle.text.proofs.Added.{adds_then}
use Rattle.who_text.specs.Line.{pointer_text}
use Rattle.who_text.proofs.line.put_pointer.Goals as goal

pub returns : goal.returns
unfolding pointer_text
returns c = adds_then c.put_bytes.ensures c.put_cell_name.ensures
