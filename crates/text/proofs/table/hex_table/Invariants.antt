-- `hex_table` meets its contract. The loop's invariant: the digits of the first `b` bytes are filled in.
use Prim.Native.Nat.{◌*◌}
use mathlib.Core.Path.{◌≡◌}
use lib.ListN.{replicate}
use Rattle.words.specs.Fill.{fill}
use Rattle.text.specs.Table.{table_digit}
use Rattle.text.proofs.table.hex_table.Given as goal

abbrev pub invariant-loop-b : goal.invariant-loop-b
invariant-loop-b l = l.digits ≡ fill table_digit (replicate 512 0) (2 * l.b)
