-- The cases of the reader and the writer: which bytes and values each refuses, and what it gives for the others.
use Prim.Native.Nat.{ℕ}
use mathlib.Core.Path.{◌≡◌, sym}
use mathlib.Core.Bool.{true, false}
use mathlib.Core.List.{List}
use lib.ListN.{length}
use borrow.Author.Tests.{eq-eqb, ne_eqb}
use Rattle.records.specs.declared.value.Record.{Record}
use Rattle.records.specs.Value.{keeps_layout}
use Rattle.layout.specs.Layout.{value_in, breaks_layout, reader_refusal, read_record, not_read}
use Rattle.layout.specs.Writing.{zero_bytes, header_fields, word_fields, fields_of, header_of, put_words, bytes_of, writer_refusal, write_record}
use Rattle.layout.proofs.Fields.{put_append}
use Rattle.words.specs.Refusal.{first_of}

pub read_length : (s : List ℕ) → (length s ≡ 80 → ⊥) → read_record s ≡ not_read 4
unfolding read_record reader_refusal first_of
read_length s h = simp (ne_eqb (length s) 80 h)

pub read_layout : (s : List ℕ) → length s ≡ 80 → breaks_layout s ≡ true → read_record s ≡ not_read 5
unfolding read_record reader_refusal first_of
read_layout s h b = simp (eq-eqb (length s) 80 h, b)

pub read_good :
    (s : List ℕ) → length s ≡ 80 → breaks_layout s ≡ false → read_record s ≡ record { number = 0; value = value_in s }
unfolding read_record reader_refusal first_of
read_good s h b = simp (eq-eqb (length s) 80 h, b)

pub write_layout : (v : Record) → keeps_layout v ≡ false → write_record v ≡ record { number = 5; bytes = zero_bytes }
unfolding write_record writer_refusal first_of
write_layout v b = simp b

pub write_good : (v : Record) → keeps_layout v ≡ true → write_record v ≡ record { number = 0; bytes = bytes_of v }
unfolding write_record writer_refusal first_of
write_good v b = simp b

-- the header, and then the words: all fields
pub bytes_joined : (v : Record) → put_words (header_of v) v.words 32 ≡ bytes_of v
unfolding header_of fields_of bytes_of
bytes_joined v = sym (put_append (header_fields v) (word_fields v.words 32) zero_bytes)
