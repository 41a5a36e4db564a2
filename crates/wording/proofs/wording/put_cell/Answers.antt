-- `put_cell` meets its contract.
use Rattle.text.proofs.Added.{adds_then}
use Rattle.wording.specs.Wording.{cell_text}
use Rattle.wording.proofs.wording.put_cell.Goals as goal

pub returns : goal.returns
unfolding cell_text
returns c = rw (← c.kind_numbered.ensures, ← c.from.ensures) (adds_then c.put_kind.ensures c.put_number.ensures)
