-- `put_cell_lines` meets its contract.
use Rattle.label_text.specs.Printed.{cell_lines_of}
use Rattle.text.proofs.Added.{adds_then}
use Rattle.label_text.proofs.printed.put_cell_lines.Goals as goal

pub returns : goal.returns
unfolding cell_lines_of
returns c = adds_then c.put_sharers.ensures (rw c.from.ensures at c.put_named.ensures)
