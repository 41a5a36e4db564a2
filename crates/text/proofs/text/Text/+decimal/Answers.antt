-- `write_decimal` and `write_long` meet their contracts, by the number.
use Prim.Native.Nat.{◌/◌, ◌%◌}
use native.Mathlib.Omega.{arith}
use lib.ListN.{length-append}
use Rattle.text.proofs.Added.{adds_then, adds_same}
use Rattle.text.proofs.Numerals.{length_digits, decimal_pair, decimal_pairs, pair_last, pair_before, pair_after}
use Rattle.text.proofs.text.Text.+decimal.Goals as goal

pub write_decimal-write_short-requires-then-n-lt100000000-clause-room : goal.write_decimal-write_short-requires-then-n-lt100000000-clause-room
write_decimal-write_short-requires-then-n-lt100000000-clause-room t c =
    let h = simp (decimal_pairs c.args.n c.if-n-lt10000.false (omega arith), length-append, length_digits) at c.requires in
    omega (arith, h)

pub write_decimal-write_pair-requires : goal.write_decimal-write_pair-requires
write_decimal-write_pair-requires t c =
    let h = simp (decimal_pairs c.args.n c.if-n-lt10000.false (omega arith), length-append, length_digits) at c.requires in
    omega (arith, h)

pub write_decimal-write_pair-requires-then-n-lt100000000 : goal.write_decimal-write_pair-requires-then-n-lt100000000
write_decimal-write_pair-requires-then-n-lt100000000 t c =
    let h = simp (decimal_pairs c.args.n c.if-n-lt10000.false (omega arith), length-append, length_digits) at c.requires in
    omega (arith, h, length_digits 2 (c.args.n % 10000 / 100))

pub write_decimal-returns-then-n-lt100000000 : goal.write_decimal-returns-then-n-lt100000000
write_decimal-returns-then-n-lt100000000 t c =
    let n = c.args.n in
    rw (decimal_pairs n c.if-n-lt10000.false (omega arith))
    (adds_then
    (adds_then c.write_short-then-n-lt100000000.ensures (adds_same (pair_before n) c.write_pair.ensures))
    (adds_same (pair_after n) c.write_pair-then-n-lt100000000.ensures))

pub write_long-write_decimal-requires : goal.write_long-write_decimal-requires
write_long-write_decimal-requires t c =
    let h = rw (decimal_pair c.args.n c.requires.long (omega arith), length-append, length_digits) at c.requires.room in
    (omega arith, omega (arith, h))

pub write_long-write_pair-requires : goal.write_long-write_pair-requires
write_long-write_pair-requires t c =
    let h = rw (decimal_pair c.args.n c.requires.long (omega arith), length-append, length_digits) at c.requires.room in
    omega (arith, h, c.write_decimal.ensures.put.place, c.write_decimal.ensures.length)

pub write_long-returns : goal.write_long-returns
write_long-returns t c =
    let n = c.args.n in
    rw (decimal_pair n c.requires.long (omega arith))
    (adds_then c.write_decimal.ensures (adds_same (pair_last n) c.write_pair.ensures))
