-- A record's line, and lines of a name and a number.
use Rattle.std.specs.Prelude.{ℕ, Bool, cond, List, [], ◌∷◌, ◌++◌, eqb}
use Rattle.message.specs.declared.answer.Answer.{Answer}
use Rattle.text.specs.Text.{hex_text, decimal_text, newline}

-- a column after the first: a space before it
abbrev pub column : List ℕ → List ℕ
column text = 32 ∷ text

-- "none"
unfoldable pub none_text : List ℕ
none_text = 110 ∷ 111 ∷ 110 ∷ 101 ∷ []

-- "status or "none""
unfoldable pub status_text : Bool → ℕ → List ℕ
status_text answered status = cond answered (hex_text status) none_text

-- three columns of stored words
unfoldable pub three_words : ℕ → ℕ → ℕ → List ℕ
three_words x y z = column (hex_text x) ++ column (hex_text y) ++ column (hex_text z)

-- the columns of an accepted record after its place: "number, block status, the cell's pointer before and after, status
-- or "none", data words sent, interrupt word."
unfoldable pub accepted_columns : Answer → List ℕ
accepted_columns a =
    column (decimal_text a.number)
    ++ three_words a.block_status a.before a.after
    ++ column (status_text a.answered a.status)
    ++ column (decimal_text a.sent)
    ++ column (hex_text a.interrupt)
    ++ newline

-- and of a refused one: the number alone
unfoldable pub refused_columns : ℕ → List ℕ
refused_columns refusal = column (decimal_text refusal) ++ newline

-- the columns of a record's line after its place
unfoldable pub columns_of : Answer → List ℕ
columns_of a = cond (eqb a.number 0) (accepted_columns a) (refused_columns a.number)

-- a record's line: its place, and its answer. "Columns: record, number, block status, the cell's pointer before and
-- after, status or "none", data words sent, interrupt word."
unfoldable pub line_of : ℕ → Answer → List ℕ
line_of number a = decimal_text number ++ columns_of a

-- a line of a name and a number
unfoldable pub named_line : List ℕ → ℕ → List ℕ
named_line name n = name ++ column (decimal_text n) ++ newline
