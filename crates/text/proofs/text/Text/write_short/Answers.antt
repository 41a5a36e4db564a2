-- `write_short` meets its contract: two digits at most, or two behind others.
use native.Mathlib.Omega.{arith}
use lib.ListN.{length-append}
use Rattle.text.proofs.Added.{adds_then, adds_same}
use Rattle.text.proofs.Numerals.{length_digits, decimal_pair, pair_last}
use Rattle.text.proofs.text.Text.write_short.Goals as goal

pub write_few-requires-else-n-lt100-clause-room : goal.write_few-requires-else-n-lt100-clause-room
write_few-requires-else-n-lt100-clause-room c =
    let h = rw (decimal_pair c.args.n c.if-n-lt100.false (omega arith), length-append, length_digits) at c.requires.room in
    omega (arith, h)

pub write_pair-requires : goal.write_pair-requires
write_pair-requires c =
    let h = rw (decimal_pair c.args.n c.if-n-lt100.false (omega arith), length-append, length_digits) at c.requires.room in
    omega (arith, h)

pub returns-else-n-lt100 : goal.returns-else-n-lt100
returns-else-n-lt100 c =
    let n = c.args.n in
    rw (decimal_pair n c.if-n-lt100.false (omega arith))
    (adds_then c.write_few-else-n-lt100.ensures (adds_same (pair_last n) c.write_pair.ensures))
