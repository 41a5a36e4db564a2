-- `put_area_lines` meets its contract.
use Rattle.label_text.specs.Printed.{lines_of}
use Rattle.text.proofs.Added.{adds_then}
use Rattle.label_text.proofs.printed.put_area_lines.Goals as goal

pub returns : goal.returns
unfolding lines_of
returns c =
    adds_then
    (adds_then (rw c.from.ensures at c.put_pairs.ensures) (rw c.from-named.ensures at c.put_unsound.ensures))
    (rw c.from-2.ensures at c.put_named.ensures)
