-- `pair` meets its contract, since the digits are those of the table.
use native.Mathlib.Omega.{arith}
use Rattle.text.proofs.TwoDigits.{first_digit, second_digit}
use Rattle.text.proofs.table.HexTable.pair.Goals as goal

pub returns-clause-first : goal.returns-clause-first
returns-clause-first c = rw c.args.self.now.worked_out (first_digit c.args.b (omega arith))

pub returns-clause-second : goal.returns-clause-second
returns-clause-second c = rw c.args.self.now.worked_out (second_digit c.args.b (omega arith))
