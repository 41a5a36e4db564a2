-- Record values as plain words: command, tag, flags, count, the thirty-two words, and last the transmit command, so
-- that who lends 36 words says what was said before there were transfers.
use Rattle.std.specs.Prelude.{ℕ, ◌+◌, List, [], ◌∷◌, ◌++◌}
use Rattle.records.specs.declared.value.Record.{Record}
use Rattle.words.specs.Fill.{fill}
use Rattle.records.specs.Value.{zero_words}
use Rattle.c_words.specs.Fields.{word_in, byte_in}

abbrev pub value_length : ℕ
value_length = 37

unfoldable pub value_from : List ℕ → Record
value_from xs =
    record {
      command = word_in xs 0;
      transmit_command = word_in xs 36;
      tag = word_in xs 1;
      flags = byte_in xs 2;
      count = byte_in xs 3;
      words = fill (λ k. word_in xs (4 + k)) zero_words 32;
    }

unfoldable pub value_words : Record → List ℕ
value_words v = v.command ∷ v.tag ∷ v.flags ∷ v.count ∷ (v.words ++ (v.transmit_command ∷ []))
