-- The cases of the reader and the writer of long records, over plain variables.
use Prim.Native.Nat.{ℕ}
use native.Mathlib.Omega.{arith}
use mathlib.Core.Path.{◌≡◌, sym, ap, ◌∙◌}
use mathlib.Core.Logic.{⊎_elim}
use mathlib.Core.Bool.{true, false, or-true}
use mathlib.Core.List.{List}
use lib.ListN.{length}
use lib.Dec.{eqb}
use lib.Seq.{length-take-le}
use borrow.Author.Tests.{eqb-true, eq-eqb, ne_eqb}
use Rattle.records.specs.Value.{keeps_layout}
use Rattle.words.specs.Refusal.{first_of}
use Rattle.words.proofs.Basics.{yes_or_no, eq_or_ne}
use Rattle.layout.specs.declared.reader.Reading.{Reading}
use Rattle.layout.specs.declared.writer.Written.{Written}
use Rattle.layout.specs.Fields.{put_fields}
use Rattle.layout.specs.Layout.{word_at, value_in, breaks_layout, not_read, read_record}
use Rattle.layout.specs.Writing.{write_record}
use Rattle.layout.proofs.Cases.{read_layout, read_good, write_good}
use Rattle.layout.proofs.Inverse.{writer_takes}
use Rattle.layout_long.specs.declared.value.LongRecord.{LongRecord}
use Rattle.layout_long.specs.declared.reader.LongReading.{LongReading}
use Rattle.layout_long.specs.declared.writer.LongWritten.{LongWritten}
use Rattle.layout_long.specs.Long.{old_part, long_in, end_zero, breaks_long, long_refusal, read_old, not_read_long, read_long}
use Rattle.layout_long.specs.WritingLong.{with_zeros, new_fields, long_bytes, long_writer_refusal, not_long, write_long}

-- ---- the reader

pub long_length_lem : (s : List ℕ) → (length s ≡ 96 → ⊥) → read_long s ≡ not_read_long 4
unfolding read_long long_refusal first_of
long_length_lem s h = simp (ne_eqb (length s) 96 h)

pub long_layout : (s : List ℕ) → length s ≡ 96 → breaks_long s ≡ true → read_long s ≡ not_read_long 5
unfolding read_long long_refusal first_of
long_layout s h b = simp (eq-eqb (length s) 96 h, b)

pub long_good :
    (s : List ℕ) → length s ≡ 96 → breaks_long s ≡ false → read_long s ≡ record { number = 0; value = long_in s }
unfolding read_long long_refusal first_of
long_good s h b = simp (eq-eqb (length s) 96 h, b)

pub old_long : (s : List ℕ) → length s ≡ 96 → length (old_part s) ≡ 80
old_long s h = length-take-le 80 s (omega arith)

pub old_broken : (s : List ℕ) → breaks_layout (old_part s) ≡ true → breaks_long s ≡ true
unfolding breaks_long
old_broken s b = rw b

pub end_broken : (s : List ℕ) → end_zero s ≡ false → breaks_long s ≡ true
unfolding breaks_long
end_broken s b = rw b (or-true (breaks_layout (old_part s)))

pub unbroken : (s : List ℕ) → breaks_layout (old_part s) ≡ false → end_zero s ≡ true → breaks_long s ≡ false
unfolding breaks_long
unbroken s b e = rw (b, e)

-- ---- what a terminal hears

pub old_number : (s : List ℕ) → (read_old s).number ≡ long_refusal s
unfolding read_old not_read
old_number s =
    ⊎_elim (λ b. rw b (sym (eqb-true (long_refusal s) 0 b))) (λ b. rw b) (yes_or_no (eqb (long_refusal s) 0))

pub old_value : (s : List ℕ) → (read_old s).number ≡ 0 → (read_old s).value ≡ value_in (old_part s)
unfolding read_old
old_value s z = rw (eq-eqb (long_refusal s) 0 (sym (old_number s) ∙ z))

pub hears_length : (s : List ℕ) → (length s ≡ 96 → ⊥) → read_old s ≡ not_read 4
unfolding read_old long_refusal first_of
hears_length s h = simp (ne_eqb (length s) 96 h)

hears_broken : (s : List ℕ) → length s ≡ 96 → breaks_long s ≡ true → read_old s ≡ not_read 5
unfolding read_old long_refusal first_of
hears_broken s h b = simp (eq-eqb (length s) 96 h, b)

hears_good :
    (s : List ℕ) → length s ≡ 96 → breaks_long s ≡ false → read_old s ≡ record { number = 0; value = value_in (old_part s) }
unfolding read_old long_refusal first_of
hears_good s h b = simp (eq-eqb (length s) 96 h, b)

pub hears_end : (s : List ℕ) → length s ≡ 96 → end_zero s ≡ false → read_old s ≡ not_read 5
hears_end s long e = hears_broken s long (end_broken s e)

-- with an end of zeros all is said by the old part
pub hears_old : (s : List ℕ) → length s ≡ 96 → end_zero s ≡ true → read_old s ≡ read_record (old_part s)
hears_old s long e =
    let o = old_part s in
    ⊎_elim
    (λ c. hears_broken s long (old_broken s c) ∙ sym (read_layout o (old_long s long) c))
    (λ c. hears_good s long (unbroken s c e) ∙ sym (read_good o (old_long s long) c))
    (yes_or_no (breaks_layout o))

-- ---- the value of the whole record

-- the number that the reader answers is its refusal
pub long_number : (s : List ℕ) → (read_long s).number ≡ long_refusal s
unfolding read_long not_read_long
long_number s =
    ⊎_elim (λ b. rw b (sym (eqb-true (long_refusal s) 0 b))) (λ b. rw b) (yes_or_no (eqb (long_refusal s) 0))

-- what is known of bytes that the reader takes
pub record LongTaken (s : List ℕ) : Type 0 where
  pub long : length s ≡ 96
  pub kept : breaks_long s ≡ false
  pub gives : read_long s ≡ record { number = 0; value = long_in s }

pub long_taken : (s : List ℕ) → long_refusal s ≡ 0 → LongTaken s
unfolding not_read_long
long_taken s z =
    let zero = long_number s ∙ z in
    ⊎_elim
    (λ long.
    ⊎_elim
    (λ b. let five : (read_long s).number ≡ 5 = ap (λ (r : LongReading). r.number) (long_layout s long b) in absurd (omega arith))
    (λ b. record { long = long; kept = b; gives = long_good s long b })
    (yes_or_no (breaks_long s)))
    (λ other.
    let four : (read_long s).number ≡ 4 = ap (λ (r : LongReading). r.number) (long_length_lem s other) in absurd (omega arith))
    (eq_or_ne (length s) 96)

-- an old part that is heard is one of 96 bytes
pub heard_long_lem : (s : List ℕ) (p : Reading) → p ≡ read_old s → p.number ≡ 0 → length s ≡ 96
heard_long_lem s p e z = (long_taken s (sym (ap (λ (r : Reading). r.number) e ∙ old_number s) ∙ z)).long

pub long_unheard : (s : List ℕ) → ((read_old s).number ≡ 0 → ⊥) → read_long s ≡ not_read_long (read_old s).number
unfolding read_long
long_unheard s m = rw (old_number s, ne_eqb (long_refusal s) 0 (λ z. m (old_number s ∙ z)))

pub long_heard :
    (s : List ℕ) → (read_old s).number ≡ 0 →
    read_long s ≡ record { number = 0; value = record { old = (read_old s).value; upper = word_at s 80; member = word_at s 82 } }
unfolding long_in
long_heard s z = (long_taken s (sym (old_number s) ∙ z)).gives ∙ rw (old_value s z)

-- ---- the writer

pub write_long_layout : (v : LongRecord) → keeps_layout v.old ≡ false → write_long v ≡ not_long 5
unfolding write_long long_writer_refusal first_of
write_long_layout v b = simp b

pub write_long_good :
    (v : LongRecord) → keeps_layout v.old ≡ true → write_long v ≡ record { number = 0; bytes = long_bytes v }
unfolding write_long long_writer_refusal first_of
write_long_good v b = simp b

pub long_written : (v : LongRecord) → (write_long v).number ≡ 0 → (write_long v).bytes ≡ long_bytes v
unfolding not_long
long_written v z =
    ⊎_elim
    (λ k. ap (λ (w : LongWritten). w.bytes) (write_long_good v k))
    (λ k.
    let five : (write_long v).number ≡ 5 = ap (λ (w : LongWritten). w.number) (write_long_layout v k) in absurd (omega arith))
    (yes_or_no (keeps_layout v.old))

pub long_unwritten : (v : LongRecord) → ((write_record v.old).number ≡ 0 → ⊥) → write_long v ≡ not_long 5
long_unwritten v m =
    ⊎_elim
    (λ k. absurd (m (ap (λ (w : Written). w.number) (write_good v.old k))))
    (λ k. write_long_layout v k)
    (yes_or_no (keeps_layout v.old))

pub long_put :
    (v : LongRecord) → (write_record v.old).number ≡ 0 →
    write_long v ≡ record { number = 0; bytes = put_fields (new_fields v) (with_zeros (write_record v.old).bytes) }
unfolding long_bytes
long_put v z =
    let k = writer_takes v.old z in
    rw (ap (λ (w : Written). w.bytes) (write_good v.old k)) (write_long_good v k)
