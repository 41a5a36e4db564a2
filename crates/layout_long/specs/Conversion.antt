-- Old records to new and back: "Convert old to new with zeros, and new to old".
use Rattle.std.specs.Prelude.{ℕ, Bool, not, cond, ◌||◌, List, [], ◌∷◌, ◌++◌, eqb}
use Rattle.layout.specs.declared.writer.Written.{Written}
use Rattle.layout_long.specs.declared.value.LongRecord.{LongRecord}
use Rattle.layout_long.specs.declared.writer.LongWritten.{LongWritten}
use Rattle.words.specs.Number.{going_back_loses}
use Rattle.words.specs.Refusal.{Test, ◌when◌, first_of}
use Rattle.layout.specs.Layout.{reader_refusal}
use Rattle.layout.specs.Writing.{zero_bytes}
use Rattle.layout_long.specs.Long.{old_part, long_in, long_tests}
use Rattle.layout_long.specs.WritingLong.{with_zeros, not_long}

-- "Convert old to new with zeros", where the old record's reader takes it: "4 for a wrong length, 5 for a broken layout"
unfoldable pub longer_of : List ℕ → LongWritten
longer_of s =
    cond (eqb (reader_refusal s) 0) (record { number = 0; bytes = with_zeros s }) (not_long (reader_refusal s))

-- "when going back would lose a non-zero upper half or member number"
unfoldable pub loses_number : LongRecord → Bool
loses_number v = not (eqb v.upper 0) || not (eqb v.member 0)

-- "4 for a wrong length, 5 for a broken layout, then 10"
abbrev pub shorter_tests : List ℕ → List Test
shorter_tests s = long_tests s ++ (going_back_loses when loses_number (long_in s) ∷ [])

unfoldable pub shorter_refusal : List ℕ → ℕ
shorter_refusal s = first_of (shorter_tests s)

-- "Result: the number, the rest zero"
unfoldable pub not_short : ℕ → Written
not_short n = record { number = n; bytes = zero_bytes }

-- "and new to old": the old part
unfoldable pub shorter_of : List ℕ → Written
shorter_of s =
    cond (eqb (shorter_refusal s) 0) (record { number = 0; bytes = old_part s }) (not_short (shorter_refusal s))
