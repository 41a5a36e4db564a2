-- The 96 bytes of a long record, and what reading them gives.
use Rattle.std.specs.Prelude.{ℕ, Bool, not, cond, ◌||◌, List, [], ◌∷◌, length, take, eqb}
use Rattle.words.specs.Sizes.{record_bytes}
use Rattle.layout.specs.declared.reader.Reading.{Reading}
use Rattle.layout_long.specs.declared.reader.LongReading.{LongReading}
use Rattle.layout_long.specs.declared.value.LongRecord.{LongRecord}
use Rattle.words.specs.Number.{record_length, record_layout}
use Rattle.words.specs.Refusal.{Test, ◌when◌, first_of}
use Rattle.records.specs.Value.{zero_value}
use Rattle.layout.specs.Layout.{word_at, are_zero, value_in, breaks_layout, not_read}

-- "The new record has 96 bytes: the old 80"
abbrev pub old_part : List ℕ → List ℕ
old_part s = take record_bytes s

-- "then 80-81 the tag's upper half, 82-83 a member number"
unfoldable pub long_in : List ℕ → LongRecord
long_in s = record { old = value_in (old_part s); upper = word_at s 80; member = word_at s 82 }

-- "84-95 zero"
abbrev pub end_zero : List ℕ → Bool
end_zero s = are_zero s 84 12

-- an old part that breaks the layout of 80 bytes, or an end that is not zero
unfoldable pub breaks_long : List ℕ → Bool
breaks_long s = breaks_layout (old_part s) || not (end_zero s)

-- "4 for a wrong length"
abbrev pub wrong_long_length : List ℕ → Bool
wrong_long_length s = not (eqb (length s) 96)

-- "4 for a wrong length, 5 for a broken layout"
abbrev pub long_tests : List ℕ → List Test
long_tests s = record_length when wrong_long_length s ∷ record_layout when breaks_long s ∷ []

unfoldable pub long_refusal : List ℕ → ℕ
long_refusal s = first_of (long_tests s)

-- what a terminal hears of it: the old part
unfoldable pub read_old : List ℕ → Reading
read_old s =
    cond (eqb (long_refusal s) 0) (record { number = 0; value = value_in (old_part s) }) (not_read (long_refusal s))

-- "Result: the number, the rest zero"
unfoldable pub zero_long : LongRecord
zero_long = record { old = zero_value; upper = 0; member = 0 }

unfoldable pub not_read_long : ℕ → LongReading
not_read_long n = record { number = n; value = zero_long }

unfoldable pub read_long : List ℕ → LongReading
read_long s = cond (eqb (long_refusal s) 0) (record { number = 0; value = long_in s }) (not_read_long (long_refusal s))
