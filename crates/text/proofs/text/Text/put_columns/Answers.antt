-- `put_columns` meets its contract: refused, past the buffer's end, where there is room, and near the end.
use native.Mathlib.Omega.{arith}
use borrow.Author.Tests.{eq-eqb, ne_eqb}
use Rattle.text.specs.Line.{columns_of, accepted_columns}
use Rattle.text.proofs.Numerals.{decimal_most}
use Rattle.text.proofs.Lines.{accepted_long}
use Rattle.text.proofs.text.Text.put_columns.Goals as goal

pub returns-then-a-ne0 : goal.returns-then-a-ne0
unfolding columns_of
returns-then-a-ne0 c = simp (ne_eqb _ _ c.if-a-ne0.true) c.put_refused.ensures

pub overflow_add-places : goal.overflow_add-places
overflow_add-places c = omega (arith, c.places.ensures, decimal_most c.from.result)

pub returns-then-is_past : goal.returns-then-is_past
unfolding columns_of
returns-then-is_past c =
    let a = c.args.a in
    let k = rw c.from.ensures at c.places.ensures in
    simp (eq-eqb _ _ c.if-a-ne0.false)
    (c.skip.ensures (accepted_columns a) (omega (arith, accepted_long a c.if-a-ne0.false, k)))

pub returns-then-has_room : goal.returns-then-has_room
unfolding columns_of
returns-then-has_room c = simp (eq-eqb _ _ c.if-a-ne0.false) c.write_accepted.ensures

pub returns-else-has_room : goal.returns-else-has_room
unfolding columns_of
returns-else-has_room c = simp (eq-eqb _ _ c.if-a-ne0.false) c.put_accepted.ensures
