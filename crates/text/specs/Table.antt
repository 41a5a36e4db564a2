-- For the code alone: the two hexadecimal digits of every byte, in a table.
use Rattle.std.specs.Prelude.{ℕ, ◌/◌, ◌%◌, cond, List, eqb, replicate}
use Rattle.words.specs.Fill.{fill}
use Rattle.text.specs.Text.{hex_digit}

-- what stands at place i: at 2b the first digit of byte b, at 2b + 1 the second
unfoldable pub table_digit : ℕ → ℕ
table_digit i = hex_digit (cond (eqb (i % 2) 0) (i / 32) (i / 2 % 16))

unfoldable pub hex_table : List ℕ
hex_table = fill table_digit (replicate 512 0) 512
