-- `hex_table` meets its contract. The loop's invariant: the digits of the first `b` bytes are filled in.
use native.Mathlib.Omega.{arith}
use mathlib.Core.Path.{◌≡◌, refl}
use Rattle.words.specs.Fill.{fill_from}
use Rattle.text.specs.Table.{hex_table}
use Rattle.text.proofs.TwoDigits.{fill_pair}
use Rattle.text.proofs.table.hex_table.Goals as goal

pub loop-b-init : goal.loop-b-init
unfolding fill_from
loop-b-init c = refl

pub loop-b-preserved : goal.loop-b-preserved
loop-b-preserved c =
    rw (c.hex_digit-in-loop-b.ensures, c.hex_digit.ensures, c.loop-b.invariant) (fill_pair c.loop-b.b (omega arith))

pub returns : goal.returns
unfolding hex_table
returns c = let all : c.loop-b.b ≡ 256 = omega arith in rw all at c.loop-b.invariant
