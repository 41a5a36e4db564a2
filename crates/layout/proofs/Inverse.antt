-- The reader and the writer undo each other, and the writer takes exactly the values that the reader can give.
use Prim.Native.Nat.{ℕ, ◌+◌, ◌*◌, ◌%◌}
use native.Mathlib.Nat.{mod-eq_of_lt}
use native.Mathlib.Omega.{arith}
use mathlib.Core.Path.{◌≡◌, refl, ap, sym, ◌∙◌}
use mathlib.Core.Logic.{⊎_elim}
use mathlib.Core.Bool.{true, false}
use mathlib.Core.List.{List}
use lib.ListN.{length, get_or, drop, get_or-replicate, get_or-eq_default}
use lib.Seq.{ext_get_or}
use Rattle.records.specs.declared.value.Record.{Record}
use Rattle.layout.specs.declared.reader.Reading.{Reading}
use Rattle.layout.specs.declared.writer.Written.{Written}
use Rattle.words.specs.Fill.{fill_from, fill}
use Rattle.records.specs.Value.{zero_words, keeps_layout, Typed}
use Rattle.words.proofs.Fill.{length_fill, fill_at}
use Rattle.layout.specs.Layout.{Bytes, words_in, value_in, gap_zero, breaks_layout, read_record, not_read}
use Rattle.layout.specs.Writing.{zero_bytes, header_fields, word_fields, fields_of, bytes_of, write_record}
use Rattle.words.proofs.Basics.{yes_or_no, lt_or_ge, eq_or_ne}
use Rattle.layout.proofs.Numbers.{zeros_number, number_zeros}
use Rattle.layout.proofs.Fields.{end_to_end, numbers_in, values_in, held_in, length_fields, bytes_fields, fields_put, fields_anew, fields_again}
use Rattle.layout.proofs.Places.{word_at_lem, layout_kept}
use Rattle.layout.proofs.Cases.{read_length, read_layout, read_good, write_layout, write_good}

-- the fields of a record stand end to end in its 80 bytes
laid : (v : Record) → end_to_end 0 (fields_of v) 80 ≡ true
unfolding end_to_end fields_of header_fields word_fields
laid v = refl

-- ---- what was written is read

pub length_bytes : (v : Record) → length (bytes_of v) ≡ 80
unfolding bytes_of
length_bytes v = length_fields (fields_of v) zero_bytes

numbers_written : (v : Record) → numbers_in (fields_of v) (bytes_of v) ≡ held_in (fields_of v)
unfolding bytes_of
numbers_written v = fields_put (fields_of v) zero_bytes 0 80 (laid v) (omega arith)

-- the value whose numbers stand in the fields, in their order
abbrev from_numbers : List ℕ → Record
from_numbers l =
    record { command = get_or l 0 0; transmit_command = get_or l 1 0; tag = get_or l 2 0; flags = get_or l 3 0; count = get_or l 4 0; words = drop 6 l }

value_numbers : (v : Record) (s : List ℕ) → value_in s ≡ from_numbers (numbers_in (fields_of v) s)
unfolding value_in words_in fill_from numbers_in fields_of header_fields word_fields
value_numbers v s = refl

words_held : (v : Record) → Typed v → fill (λ k. get_or v.words k 0 % 65536) zero_words 32 ≡ v.words
words_held v t =
    let f : ℕ → ℕ = λ k. get_or v.words k 0 % 65536 in
    let long = length_fill 0 f zero_words 32 in
    ext_get_or 0 (fill f zero_words 32) v.words (long ∙ sym t.many)
    (λ k h. fill_at f zero_words 32 k (omega arith) (omega arith) ∙ mod-eq_of_lt (t.words k))

value_held : (v : Record) → Typed v → from_numbers (held_in (fields_of v)) ≡ v
unfolding fill_from held_in fields_of header_fields word_fields
value_held v t =
    let e0 = mod-eq_of_lt t.command in
    let e1 = mod-eq_of_lt t.second in
    let e2 = mod-eq_of_lt t.tag in
    let e3 = mod-eq_of_lt t.flags in
    let e4 = mod-eq_of_lt t.count in
    let e5 = words_held v t in
    λ i. record { command = e0 i; transmit_command = e1 i; tag = e2 i; flags = e3 i; count = e4 i; words = e5 i }

pub value_back : (v : Record) → Typed v → value_in (bytes_of v) ≡ v
value_back v t = value_numbers v (bytes_of v) ∙ ap from_numbers (numbers_written v) ∙ value_held v t

-- bytes 8-15 of what is written are zero
gap_zero_lem : (v : Record) → gap_zero (bytes_of v) ≡ true
unfolding numbers_in held_in fields_of header_fields word_fields
gap_zero_lem v = number_zeros (bytes_of v) 8 8 (ap (λ (l : List ℕ). get_or l 5 0) (numbers_written v))

written_keeps : (v : Record) → Typed v → keeps_layout v ≡ true → breaks_layout (bytes_of v) ≡ false
unfolding breaks_layout
written_keeps v t k = simp (gap_zero_lem v, value_back v t, k)

-- reading what the writer wrote gives the value
pub read_after_write :
    (v : Record) → Typed v → keeps_layout v ≡ true → read_record (bytes_of v) ≡ record { number = 0; value = v }
read_after_write v t k = rw (read_good (bytes_of v) (length_bytes v) (written_keeps v t k), value_back v t)

-- ---- what was read is written

numbers_read : (s : List ℕ) → gap_zero s ≡ true → numbers_in (fields_of (value_in s)) s ≡ values_in (fields_of (value_in s))
unfolding value_in words_in fill_from numbers_in values_in fields_of header_fields word_fields
numbers_read s e = rw (zeros_number s 8 8 e)

pub bytes_back : (s : List ℕ) → length s ≡ 80 → Bytes s → gap_zero s ≡ true → bytes_of (value_in s) ≡ s
unfolding bytes_of
bytes_back s e b g =
    let v = value_in s in
    fields_anew (fields_of v) zero_bytes s 0 80 (laid v) refl e (λ k l. omega arith)
    ∙ fields_again (fields_of v) s b (numbers_read s g)

-- writing what the reader read gives the bytes
pub write_after_read :
    (s : List ℕ) → length s ≡ 80 → Bytes s → breaks_layout s ≡ false →
    write_record (value_in s) ≡ record { number = 0; bytes = s }
write_after_read s e b k =
    let g = layout_kept s k in rw (write_good (value_in s) g.value, bytes_back s e b g.gap)

-- ---- the writer takes exactly what the reader can give

-- what is known of bytes that the reader takes
pub record Taken (s : List ℕ) : Type 0 where
  pub long : length s ≡ 80
  pub kept : breaks_layout s ≡ false
  pub gives : read_record s ≡ record { number = 0; value = value_in s }

pub reader_takes : (s : List ℕ) → (read_record s).number ≡ 0 → Taken s
unfolding not_read
reader_takes s z =
    ⊎_elim
    (λ long.
    ⊎_elim
    (λ b. let five : (read_record s).number ≡ 5 = ap (λ (r : Reading). r.number) (read_layout s long b) in absurd (omega arith))
    (λ b. record { long = long; kept = b; gives = read_good s long b })
    (yes_or_no (breaks_layout s)))
    (λ other.
    let four : (read_record s).number ≡ 4 = ap (λ (r : Reading). r.number) (read_length s other) in absurd (omega arith))
    (eq_or_ne (length s) 80)

pub writer_takes : (v : Record) → (write_record v).number ≡ 0 → keeps_layout v ≡ true
writer_takes v z =
    ⊎_elim
    (λ k. k)
    (λ k. let five : (write_record v).number ≡ 5 = ap (λ (w : Written). w.number) (write_layout v k) in absurd (omega arith))
    (yes_or_no (keeps_layout v))

-- the reader gives v for some bytes
pub record Given (v : Record) : Type 0 where
  pub from : List ℕ
  pub bytes : Bytes from
  pub reads : read_record from ≡ record { number = 0; value = v }

words_length : (s : List ℕ) → length (words_in s) ≡ 32
unfolding words_in
words_length s = length_fill 0 _ zero_words 32

pub typed_value : (s : List ℕ) → Bytes s → Typed (value_in s)
unfolding value_in
typed_value s b =
    record {
      command = omega (arith, b 0, b 1);
      second = omega (arith, b 2, b 3);
      tag = omega (arith, b 4, b 5);
      flags = b 6;
      count = b 7;
      many = words_length s;
      words =
          λ k.
          ⊎_elim
          (λ l. rw (word_at_lem s k l) (omega (arith, b (16 + 2 * k), b (16 + 2 * k + 1))))
          (λ l. rw (get_or-eq_default (words_in s) 0 {n = k} (omega (arith, words_length s))) (omega arith))
          (lt_or_ge k 32);
    }

bytes_zero : Bytes zero_bytes
bytes_zero k =
    ⊎_elim
    (λ l. rw (get_or-replicate {A = ℕ} 80 k 0 0 l) (omega arith))
    (λ l. rw (get_or-eq_default zero_bytes 0 {n = k} l) (omega arith))
    (lt_or_ge k 80)

pub bytes_written : (v : Record) → Bytes (bytes_of v)
unfolding bytes_of
bytes_written v = bytes_fields (fields_of v) zero_bytes bytes_zero

pub taken_is_given : (v : Record) → Typed v → (write_record v).number ≡ 0 → Given v
taken_is_given v t z =
    let k = writer_takes v z in
    record { from = bytes_of v; bytes = bytes_written v; reads = read_after_write v t k }

pub given_is_taken : (v : Record) → Given v → Typed v × ((write_record v).number ≡ 0)
given_is_taken v g =
    let s = g.from in
    let t = reader_takes s (ap (λ (r : Reading). r.number) g.reads) in
    let e : value_in s ≡ v = ap (λ (r : Reading). r.value) (sym t.gives ∙ g.reads) in
    (rw e at (typed_value s g.bytes), rw e at (ap (λ (w : Written). w.number) (write_after_read s t.long g.bytes t.kept)))
