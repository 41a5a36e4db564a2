-- `put_unsound` meets its contract: no line, or the first cell and the others.
use native.Mathlib.Omega.{arith}
use Rattle.label_text.proofs.Named.{no_cells, first_and_others}
use Rattle.label_text.proofs.printed.put_unsound.Goals as goal

pub returns-in_default : goal.returns-in_default
returns-in_default c = no_cells _ (omega arith) (omega arith) (omega (arith, c.in_default.len_below))

pub returns-in-len1-up : goal.returns-in-len1-up
returns-in-len1-up c =
    first_and_others _ (omega arith) c.put_bytes.ensures c.put_cell.ensures c.put_others.ensures c.put_newline.ensures
