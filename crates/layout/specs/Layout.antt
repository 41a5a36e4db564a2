-- The 80 bytes of a message record, and what reading them gives.
use Rattle.std.specs.Prelude.{ℕ, zero, suc, ◌+◌, ◌*◌, ◌<◌, Bool, true, not, cond, ◌&&◌, List, [], ◌∷◌, length, get_or, eqb}
use Rattle.words.specs.Sizes.{record_bytes}
use Rattle.records.specs.declared.value.Record.{Record}
use Rattle.layout.specs.declared.reader.Reading.{Reading}
use Rattle.words.specs.Fill.{fill}
use Rattle.records.specs.Value.{zero_words, zero_value, keeps_layout}
use Rattle.words.specs.Number.{record_length, record_layout}
use Rattle.words.specs.Refusal.{◌when◌, first_of}
use Rattle.layout.specs.Fields.{number_at}

-- what the type `[u8]` says of a slice's bytes
abbrev pub Bytes : List ℕ → Type 0
Bytes s = (k : ℕ) → get_or s k 0 < 256

-- the word whose high byte is byte i
abbrev pub word_at : List ℕ → ℕ → ℕ
word_at s i = number_at s i 2

-- the n bytes from `from` on are zero
unfoldable pub are_zero : List ℕ → ℕ → ℕ → Bool
are_zero s from zero = true
are_zero s from (suc n) = are_zero s from n && eqb (get_or s (from + n) 0) 0

-- "16-79 thirty-two words"
unfoldable pub words_in : List ℕ → List ℕ
words_in s = fill (λ k. word_at s (16 + 2 * k)) zero_words 32

-- "Bytes 0-1 command; .. 4-5 time tag; 6 flags ..; 7 count; .. 16-79 thirty-two words." "bytes 2-3 hold the transmit
-- command"
unfoldable pub value_in : List ℕ → Record
value_in s =
    record {
      command = word_at s 0;
      transmit_command = word_at s 2;
      tag = word_at s 4;
      flags = get_or s 6 0;
      count = get_or s 7 0;
      words = words_in s;
    }

-- "8-15 zero"
abbrev pub gap_zero : List ℕ → Bool
gap_zero s = are_zero s 8 8

-- a gap that is not zero, or a value that breaks its rules
unfoldable pub breaks_layout : List ℕ → Bool
breaks_layout s = not (gap_zero s && keeps_layout (value_in s))

-- "record is not 80 bytes"
abbrev pub wrong_length : List ℕ → Bool
wrong_length s = not (eqb (length s) record_bytes)

-- "Result: the number, the rest zero"
unfoldable pub not_read : ℕ → Reading
not_read n = record { number = n; value = zero_value }

-- the reader's tests, in the table's order
unfoldable pub reader_refusal : List ℕ → ℕ
reader_refusal s = first_of (record_length when wrong_length s ∷ record_layout when breaks_layout s ∷ [])

-- "Result: the number, the rest zero"
unfoldable pub read_record : List ℕ → Reading
read_record s = cond (eqb (reader_refusal s) 0) (record { number = 0; value = value_in s }) (not_read (reader_refusal s))
