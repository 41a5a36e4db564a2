-- `put_cell_text` meets its contract: the line of a refusal, or the lines of the label.
use borrow.Author.Rules.{rules}
use mathlib.Core.Path.{refl}
use Rattle.text.proofs.Added.{adds_first}
use Rattle.label_text.proofs.Most.{cell_text_most}
use Rattle.label_text.proofs.Handed.{cell_fits, cell_printed, cell_refused_text}
use Rattle.label_text.proofs.printed.put_cell_text.Goals as goal
use Rattle.label_text.proofs.printed.put_cell_text.Goals.{then-label-ne0, else-label-ne0}

pub put_cell_lines-requires : goal.put_cell_lines-requires
put_cell_lines-requires c = cell_fits _ _ _ _ c.label_cell-label.ensures

pub returns : goal.returns
returns c =
    elim c.if-label-ne0.branch [
      | then-label-ne0 w ↦
          let text = cell_refused_text _ _ _ _ c.label_cell-label.ensures w.if-label-ne0.true in
          adds_first (rw (text, ← w.text-is) at w.put_refused.ensures) (search rules) (search rules) refl (cell_text_most _ _ _)
      | else-label-ne0 w ↦
          let text = cell_printed _ _ _ _ c.label_cell-label.ensures w.if-label-ne0.false in
          adds_first (rw (text, ← w.text-is) at w.put_cell_lines.ensures) (search rules) (search rules) refl (cell_text_most _ _ _)
    ]
