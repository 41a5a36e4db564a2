-- `check_area` meets its contract: what is refused before a cell is looked at, and else the cell that goes with 9.
use Rattle.area.proofs.Before.{told_before, told_fine, told_unsound}
use Rattle.area.proofs.area.check_area.Goals as goal

pub returns-then-number-ne0 : goal.returns-then-number-ne0
returns-then-number-ne0 c = told_before _ _ _ c.ground_refusal-number.ensures c.if-number-ne0.true

pub returns-in-Some : goal.returns-in-Some
returns-in-Some c = told_unsound _ _ _ c.ground_refusal-number.ensures _ c.if-number-ne0.false c.in-Some.ensures

pub returns-in-None : goal.returns-in-None
returns-in-None c = told_fine _ _ _ c.ground_refusal-number.ensures c.if-number-ne0.false c.in-None.ensures
