-- Long records as plain words: the 37 words of a record's value, then the tag's upper half and the member number, so that
-- who lends 37 words says what was said before.
use Rattle.std.specs.Prelude.{ℕ, List, [], ◌∷◌, ◌++◌}
use Rattle.layout_long.specs.declared.value.LongRecord.{LongRecord}
use Rattle.c_words.specs.Fields.{word_in}
use Rattle.c_words_messages.specs.Values.{value_from, value_words}

abbrev pub long_length : ℕ
long_length = 39

unfoldable pub long_from : List ℕ → LongRecord
long_from xs = record { old = value_from xs; upper = word_in xs 37; member = word_in xs 38 }

unfoldable pub long_words : LongRecord → List ℕ
long_words v = value_words v.old ++ (v.upper ∷ v.member ∷ [])
