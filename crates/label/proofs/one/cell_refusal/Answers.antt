-- `cell_refusal` meets its contract: 1, 3 and 8, then 9 for a cell that takes no part.
use mathlib.Core.Path.{sym, ◌∙◌}
use Rattle.label.proofs.Refused.{ground_first, no_part, a_part}
use Rattle.label.proofs.one.cell_refusal.Goals as goal

pub returns-then-number-ne0 : goal.returns-then-number-ne0
returns-then-number-ne0 c =
    let e = c.ground_refusal-number.ensures in
    e ∙ ground_first _ _ _ (λ z. c.if-number-ne0.true (e ∙ z))

pub returns-then-takes_part : goal.returns-then-takes_part
returns-then-takes_part c =
    a_part _ _ _ (sym c.ground_refusal-number.ensures ∙ c.if-number-ne0.false) (sym c.takes_part.ensures ∙ c.if-takes_part.true)

pub returns : goal.returns
returns c =
    no_part _ _ _ (sym c.ground_refusal-number.ensures ∙ c.if-number-ne0.false) (sym c.takes_part.ensures ∙ c.if-takes_part.false)
