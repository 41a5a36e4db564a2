-- `put_cell_name` meets its contract.
use Rattle.text.proofs.Added.{adds_then}
use Rattle.who_text.specs.Line.{cell_name}
use Rattle.who_text.proofs.line.put_cell_name.Goals as goal

pub returns : goal.returns
unfolding cell_name
returns c =
    rw (← c.kind_numbered.ensures, ← c.from.ensures)
    (adds_then (adds_then c.put_kind.ensures c.put_bytes.ensures) c.put_number.ensures)
