-- `put_data` meets its contract.
use Rattle.text.proofs.Added.{adds_then}
use Rattle.who_text.specs.Line.{data_text}
use Rattle.who_text.proofs.line.put_data.Goals as goal

pub returns : goal.returns
unfolding data_text
returns c =
    rw (← c.from.ensures) (adds_then (adds_then c.put_cell_name.ensures c.put_bytes.ensures) c.put_number.ensures)
