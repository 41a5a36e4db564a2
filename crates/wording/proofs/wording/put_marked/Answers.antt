-- `put_marked` meets its contract.
use Rattle.text.proofs.Added.{adds_then}
use Rattle.wording.specs.Wording.{marked_text}
use Rattle.wording.proofs.wording.put_marked.Goals as goal

pub returns : goal.returns
unfolding marked_text
returns c = adds_then c.put_cell.ensures c.put_mark.ensures
