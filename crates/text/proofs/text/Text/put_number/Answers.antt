-- `put_number` meets its contract: past the buffer's end, where there is room, and near the end.
use native.Mathlib.Omega.{arith}
use Rattle.text.specs.Text.{decimal_text}
use Rattle.text.specs.Line.{column}
use Rattle.text.proofs.Added.{adds_then}
use Rattle.text.proofs.Numerals.{decimal_most}
use Rattle.text.proofs.text.Text.put_number.Goals as goal

pub overflow_add-places : goal.overflow_add-places
overflow_add-places c = omega (arith, c.places.ensures, decimal_most c.args.n)

pub returns-then-is_past : goal.returns-then-is_past
returns-then-is_past c = c.skip.ensures (column (decimal_text c.args.n)) (omega (arith, c.places.ensures))

pub write_decimal-requires : goal.write_decimal-requires
write_decimal-requires c = omega (arith, decimal_most c.args.n)

pub returns-then-has_room : goal.returns-then-has_room
returns-then-has_room c = adds_then c.write.ensures c.write_decimal.ensures

pub returns-else-has_room : goal.returns-else-has_room
returns-else-has_room c = adds_then c.put_byte.ensures c.put_decimal.ensures
