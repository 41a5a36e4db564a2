-- `places` meets its contract, by the lengths of the number and of what is left of it.
use native.Mathlib.Omega.{arith}
use Rattle.text.proofs.Numerals.{decimal_less, decimal_most, length_one}
use Rattle.text.proofs.decimal.places.Goals as goal

pub overflow_add-count : goal.overflow_add-count
overflow_add-count c = omega (arith, c.loop-rest.invariant, decimal_most c.args.n)

pub loop-rest-preserved : goal.loop-rest-preserved
loop-rest-preserved c =
    omega (arith, c.loop-rest.invariant, decimal_less c.loop-rest.rest (omega arith) (omega arith))

pub returns : goal.returns
returns c = omega (arith, c.loop-rest.invariant, length_one c.loop-rest.rest (omega arith))
