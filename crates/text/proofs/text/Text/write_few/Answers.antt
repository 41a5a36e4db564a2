-- `write_few` meets its contract: a number of one digit, and of two.
use native.Mathlib.Omega.{arith}
use Rattle.text.proofs.Numerals.{length_digits, decimal_one, decimal_two}
use Rattle.text.proofs.text.Text.write_few.Goals as goal

pub write-requires : goal.write-requires
write-requires c =
    let h = rw (decimal_one c.args.n c.if-n-lt10.true) at c.requires.room in (omega arith, omega (arith, h))

pub write_pair-requires : goal.write_pair-requires
write_pair-requires c =
    rw (decimal_two c.args.n c.if-n-lt10.false c.requires.few, length_digits) at c.requires.room

pub returns-then-n-lt10 : goal.returns-then-n-lt10
returns-then-n-lt10 c = rw (decimal_one c.args.n c.if-n-lt10.true) c.write.ensures

pub returns-else-n-lt10 : goal.returns-else-n-lt10
returns-else-n-lt10 c = rw (decimal_two c.args.n c.if-n-lt10.false c.requires.few) c.write_pair.ensures
