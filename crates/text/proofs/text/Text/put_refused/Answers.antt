-- `put_refused` meets its contract.
use Rattle.text.specs.Line.{refused_columns}
use Rattle.text.proofs.Added.{adds_then}
use Rattle.text.proofs.text.Text.put_refused.Goals as goal

pub returns : goal.returns
unfolding refused_columns
returns c = rw (← c.from.ensures) (adds_then c.put_number.ensures c.put_newline.ensures)
