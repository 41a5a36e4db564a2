-- The lines after the last whole record.
use Rattle.std.specs.Prelude.{ℕ, cond, List, [], ◌∷◌, ◌++◌, eqb}
use Rattle.text.specs.Line.{named_line}

-- "tail", "end"
abbrev pub tail_name : List ℕ
tail_name = 116 ∷ 97 ∷ 105 ∷ 108 ∷ []

abbrev pub end_name : List ℕ
end_name = 101 ∷ 110 ∷ 100 ∷ []

-- "A short tail prints "tail" and its length, 1 to 79, on a line before the end line"; no tail prints nothing
unfoldable pub tail_line : ℕ → List ℕ
tail_line n = cond (eqb n 0) [] (named_line tail_name n)

-- "the end line counts whole records, refused ones too"
unfoldable pub end_line : ℕ → List ℕ
end_line n = named_line end_name n

-- the lines after the last whole record: the tail, if there is one, and the end line
unfoldable pub last_lines : ℕ → ℕ → List ℕ
last_lines tail number = tail_line tail ++ end_line number
