-- The reader and the writer of long records undo each other: by the laws of any list of fields, behind the old part.
use Prim.Native.Nat.{ℕ, ◌<◌}
use native.Mathlib.Nat.{mod-eq_of_lt}
use native.Mathlib.Omega.{arith}
use mathlib.Core.Path.{◌≡◌, refl, sym, ap, ◌∙◌}
use mathlib.Core.Logic.{⊎_elim}
use mathlib.Core.Bool.{true, false, not}
use mathlib.Core.List.{List}
use lib.ListN.{length, get_or, replicate, length-append, get_or-append, get_or-eq_default}
use lib.Seq.{ext_get_or, get_or-take, length-take-le}
use borrow.Author.Tests.{not-false}
use Rattle.records.specs.Value.{keeps_layout, Typed}
use Rattle.words.proofs.Basics.{lt_or_ge, or_left, or_right}
use Rattle.layout.specs.Fields.{put_fields}
use Rattle.layout.specs.Layout.{Bytes, word_at, value_in, breaks_layout}
use Rattle.layout.specs.Writing.{bytes_of}
use Rattle.layout.specs.declared.reader.Reading.{Reading}
use Rattle.layout.proofs.Numbers.{zeros_number, number_zeros}
use Rattle.layout.proofs.Fields.{end_to_end, numbers_in, values_in, held_in, length_fields, fields_before, fields_put, fields_anew, fields_again}
use Rattle.layout.proofs.Places.{layout_kept}
use Rattle.layout.proofs.Inverse.{length_bytes, value_back, bytes_back, read_after_write, reader_takes}
use Rattle.layout_long.specs.declared.value.LongRecord.{LongRecord}
use Rattle.layout_long.specs.Long.{old_part, long_in, end_zero, breaks_long, read_long}
use Rattle.layout_long.specs.WritingLong.{with_zeros, new_fields, long_bytes, write_long}
use Rattle.layout_long.proofs.Cases.{long_good, old_long, unbroken, write_long_good}

-- what the type `LongRecord` says of a value
pub record LongTyped (v : LongRecord) : Type 0 where
  pub old : Typed v.old
  pub upper : v.upper < 65536
  pub member : v.member < 65536

-- the new fields stand end to end behind the old 80 bytes
laid : (v : LongRecord) → end_to_end 80 (new_fields v) 96 ≡ true
unfolding end_to_end new_fields
laid v = refl

with_zeros_long : (s : List ℕ) → length s ≡ 80 → length (with_zeros s) ≡ 96
with_zeros_long s h = length-append s (replicate 16 0) ∙ rw h

pub length_long : (v : LongRecord) → length (long_bytes v) ≡ 96
unfolding long_bytes
length_long v = length_fields (new_fields v) (with_zeros (bytes_of v.old)) ∙ with_zeros_long (bytes_of v.old) (length_bytes v.old)

-- ---- what was written is read

pub old_back : (v : LongRecord) → old_part (long_bytes v) ≡ bytes_of v.old
unfolding long_bytes
old_back v =
    let b = bytes_of v.old in
    let e = length-take-le 80 (long_bytes v) (omega (arith, length_long v)) in
    ext_get_or 0 (old_part (long_bytes v)) b (e ∙ sym (length_bytes v.old))
    (λ k h.
    let l : k < 80 = omega arith in
    get_or-take 80 (long_bytes v) k 0 l
    ∙ fields_before (new_fields v) (with_zeros b) 80 96 k (laid v) l
    ∙ get_or-append b (replicate 16 0) 0 k (omega (arith, length_bytes v.old)))

numbers_written : (v : LongRecord) → numbers_in (new_fields v) (long_bytes v) ≡ held_in (new_fields v)
unfolding long_bytes
numbers_written v =
    let b = bytes_of v.old in
    fields_put (new_fields v) (with_zeros b) 80 96 (laid v) (omega (arith, with_zeros_long b (length_bytes v.old)))

upper_back : (v : LongRecord) → v.upper < 65536 → word_at (long_bytes v) 80 ≡ v.upper
unfolding numbers_in held_in new_fields
upper_back v h = ap (λ (l : List ℕ). get_or l 0 0) (numbers_written v) ∙ mod-eq_of_lt h

member_back : (v : LongRecord) → v.member < 65536 → word_at (long_bytes v) 82 ≡ v.member
unfolding numbers_in held_in new_fields
member_back v h = ap (λ (l : List ℕ). get_or l 1 0) (numbers_written v) ∙ mod-eq_of_lt h

end_back : (v : LongRecord) → end_zero (long_bytes v) ≡ true
unfolding numbers_in held_in new_fields
end_back v = number_zeros (long_bytes v) 84 12 (ap (λ (l : List ℕ). get_or l 2 0) (numbers_written v))

pub long_back : (v : LongRecord) → LongTyped v → long_in (long_bytes v) ≡ v
unfolding long_in
long_back v t =
    let e0 = ap value_in (old_back v) ∙ value_back v.old t.old in
    let e1 = upper_back v t.upper in
    let e2 = member_back v t.member in
    λ i. record { old = e0 i; upper = e1 i; member = e2 i }

pub long_read_after_write :
    (v : LongRecord) → LongTyped v → keeps_layout v.old ≡ true → read_long (long_bytes v) ≡ record { number = 0; value = v }
long_read_after_write v t k =
    let taken = reader_takes (bytes_of v.old) (ap (λ (r : Reading). r.number) (read_after_write v.old t.old k)) in
    let b : breaks_layout (old_part (long_bytes v)) ≡ false = ap breaks_layout (old_back v) ∙ taken.kept in
    long_good (long_bytes v) (length_long v) (unbroken (long_bytes v) b (end_back v))
    ∙ ap (λ (x : LongRecord). record { number = 0; value = x }) (long_back v t)

-- ---- what was read is written

numbers_read :
    (s : List ℕ) → end_zero s ≡ true → numbers_in (new_fields (long_in s)) s ≡ values_in (new_fields (long_in s))
unfolding long_in numbers_in values_in new_fields
numbers_read s e = rw (zeros_number s 84 12 e)

-- the parts of a long layout that is kept
pub record LongKept (s : List ℕ) : Type 0 where
  pub old : breaks_layout (old_part s) ≡ false
  pub end : end_zero s ≡ true

pub long_kept : (s : List ℕ) → breaks_long s ≡ false → LongKept s
unfolding breaks_long
long_kept s b =
    let parts = breaks_layout (old_part s) in
    record {
      old = or_left parts (not (end_zero s)) b;
      end = not-false (end_zero s) (or_right parts (not (end_zero s)) b);
    }

bytes_old : (s : List ℕ) → Bytes s → length s ≡ 96 → Bytes (old_part s)
bytes_old s b h k =
    ⊎_elim
    (λ l. rw (get_or-take 80 s k 0 l) (b k))
    (λ l. rw (get_or-eq_default (old_part s) 0 {n = k} (omega (arith, old_long s h))) (omega arith))
    (lt_or_ge k 80)

pub long_bytes_back : (s : List ℕ) → length s ≡ 96 → Bytes s → LongKept s → long_bytes (long_in s) ≡ s
unfolding long_bytes long_in
long_bytes_back s h b k =
    let v = long_in s in
    let o = old_part s in
    let e = bytes_back o (old_long s h) (bytes_old s b h) (layout_kept o k.old).gap in
    ap (λ (x : List ℕ). put_fields (new_fields v) (with_zeros x)) e
    ∙ fields_anew (new_fields v) (with_zeros o) s 80 96 (laid v) (with_zeros_long o (old_long s h)) h
    (λ j l. get_or-append o (replicate 16 0) 0 j (omega (arith, old_long s h)) ∙ get_or-take 80 s j 0 l)
    ∙ fields_again (new_fields v) s b (numbers_read s k.end)

pub long_write_after_read :
    (s : List ℕ) → length s ≡ 96 → Bytes s → breaks_long s ≡ false → write_long (long_in s) ≡ record { number = 0; bytes = s }
unfolding long_in
long_write_after_read s h b e =
    let k = long_kept s e in
    write_long_good (long_in s) (layout_kept (old_part s) k.old).value ∙ rw (long_bytes_back s h b k)
