-- `write_decimal` and `write_long` meet their contracts, by the number.
use Prim.Native.Nat.{◌+◌, ◌*◌}
use Rattle.text.proofs.text.Text.+decimal.Given as goal

abbrev pub decreases-write_decimal : goal.decreases-write_decimal
decreases-write_decimal l = 2 * l.n + 1

abbrev pub decreases-write_long : goal.decreases-write_long
decreases-write_long l = 2 * l.n
