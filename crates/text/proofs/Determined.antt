-- The inputs determine the answer: for each public function, any two results that its contract allows are equal, and so
-- are any two last values of each lent word, and of a lent text. Each line speaks of the contract as the checker reads it
-- (`Reads.Post`), so that none can drift from its function.
use mathlib.Core.Path.{◌≡◌, refl}
use Rattle.std.specs.Coded.{coded_list, coded_ℕ, Coded-set}
use std.HLevel.{prop→path_p}
use Rattle.words.proofs.Settled.{determined, Settled}
use Rattle.text.specs.declared.table.HexTable.{HexTable}
use Rattle.text.specs.Table.{hex_table}
use Rattle.text.proofs.Added.{adds_settled}
use Rattle.text.proofs.text.Text
use Rattle.text.proofs.table
use Rattle.text.proofs.table.HexTable as Table

-- a table is its digits: what stands beside them is a fact about these
table_settled : (x y : HexTable) → x.digits ≡ y.digits → x ≡ y
table_settled x y e = λ i. record {
  digits = e i;
  worked_out = prop→path_p (λ j. e j ≡ hex_table) (Coded-set (coded_list coded_ℕ) y.digits hex_table) x.worked_out y.worked_out i;
}

pub new_settled : Settled 0 Table.new.Kinds.ps Table.new.Kinds.r Table.new.Reads.Post
new_settled κs a x y v w p q = (table_settled x y (determined p q), refl)

pub hex_table_settled : Settled 0 table.hex_table.Kinds.ps table.hex_table.Kinds.r table.hex_table.Reads.Post
hex_table_settled κs a x y v w p q = (determined p q, refl)

pub digits_settled : Settled 1 Table.digits.Kinds.ps Table.digits.Kinds.r Table.digits.Reads.Post
digits_settled κs a x y v w p q = (determined p q, refl)

pub put_bytes_settled : Settled 3 Text.put_bytes.Kinds.ps Text.put_bytes.Kinds.r Text.put_bytes.Reads.Post
put_bytes_settled κs a x y v w p q = (refl, λ i. (adds_settled p q i, v.1))

pub put_hex_word_settled : Settled 2 Text.put_hex_word.Kinds.ps Text.put_hex_word.Kinds.r Text.put_hex_word.Reads.Post
put_hex_word_settled κs a x y v w p q = (refl, λ i. (adds_settled p q i, v.1))

pub put_decimal_settled : Settled 2 Text.put_decimal.Kinds.ps Text.put_decimal.Kinds.r Text.put_decimal.Reads.Post
put_decimal_settled κs a x y v w p q = (refl, λ i. (adds_settled p q i, v.1))

pub put_newline_settled : Settled 2 Text.put_newline.Kinds.ps Text.put_newline.Kinds.r Text.put_newline.Reads.Post
put_newline_settled κs a x y v w p q = (refl, λ i. (adds_settled p q i, v.1))

pub put_number_settled : Settled 2 Text.put_number.Kinds.ps Text.put_number.Kinds.r Text.put_number.Reads.Post
put_number_settled κs a x y v w p q = (refl, λ i. (adds_settled p q i, v.1))

pub put_named_settled : Settled 3 Text.put_named.Kinds.ps Text.put_named.Kinds.r Text.put_named.Reads.Post
put_named_settled κs a x y v w p q = (refl, λ i. (adds_settled p q i, v.1))

pub put_columns_settled : Settled 3 Text.put_columns.Kinds.ps Text.put_columns.Kinds.r Text.put_columns.Reads.Post
put_columns_settled κs a x y v w p q = (refl, λ i. (adds_settled p q i, v.1))
