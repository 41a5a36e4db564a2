-- The two round-trip functions of long records, over plain variables: each way out gives what the definition says.
use Prim.Native.Nat.{ℕ}
use native.Mathlib.Omega.{arith}
use mathlib.Core.Path.{◌≡◌, sym, ap, ◌∙◌}
use mathlib.Core.Logic.{⊎_elim}
use mathlib.Core.List.{List}
use lib.Dec.{eqb}
use borrow.Author.Tests.{eqb-true, eq-eqb, ne_eqb}
use Rattle.records.specs.Value.{keeps_layout}
use Rattle.words.specs.Refusal.{first_of}
use Rattle.words.proofs.Basics.{yes_or_no}
use Rattle.layout.specs.Layout.{Bytes}
use Rattle.layout_long.specs.declared.value.LongRecord.{LongRecord}
use Rattle.layout_long.specs.declared.reader.LongReading.{LongReading}
use Rattle.layout_long.specs.declared.writer.LongWritten.{LongWritten}
use Rattle.layout_long.specs.Long.{long_refusal, zero_long, not_read_long, read_long}
use Rattle.layout_long.specs.WritingLong.{zero_long_bytes, long_writer_refusal, not_long, write_long}
use Rattle.layout_long.specs.RoundTrip.{long_read_back, long_write_back}
use Rattle.layout_long.proofs.Cases.{long_number, long_taken, write_long_good}
use Rattle.layout_long.proofs.Inverse.{LongTyped, long_read_after_write, long_write_after_read}

-- the number that the writer answers is its refusal
pub long_writer_number : (v : LongRecord) → (write_long v).number ≡ long_writer_refusal v
unfolding write_long not_long
long_writer_number v =
    ⊎_elim (λ b. rw b (sym (eqb-true (long_writer_refusal v) 0 b))) (λ b. rw b) (yes_or_no (eqb (long_writer_refusal v) 0))

five_not_zero : ◌≡◌ {A = ℕ} 5 0 → ⊥
five_not_zero e = omega arith

module _ (v : LongRecord) (w : LongWritten) (e : w ≡ write_long v) where
  number_told : w.number ≡ long_writer_refusal v
  number_told = ap (λ (x : LongWritten). x.number) e ∙ long_writer_number v

  pub read_back_refused :
      (w.number ≡ 0 → ⊥) → (z : LongRecord) → z ≡ zero_long →
      ◌≡◌ {A = LongReading} (record { number = w.number; value = z }) (long_read_back v)
  unfolding long_read_back not_read_long
  read_back_refused m z f =
      let some : long_writer_refusal v ≡ 0 → ⊥ = λ n. m (number_told ∙ n) in
      rw (ne_eqb (long_writer_refusal v) 0 some, f, number_told)

  pub read_back_taken :
      LongTyped v → w.number ≡ 0 → (r : LongReading) → r ≡ read_long w.bytes → r ≡ long_read_back v
  unfolding long_read_back long_writer_refusal first_of
  read_back_taken t z r f =
      ⊎_elim
      (λ k.
      let bytes = ap (λ (x : LongWritten). x.bytes) (e ∙ write_long_good v k) in
      f ∙ ap read_long bytes ∙ long_read_after_write v t k ∙ rw k)
      (λ k. let n = sym number_told ∙ z in absurd (five_not_zero (rw k at n)))
      (yes_or_no (keeps_layout v.old))

module _ (s : List ℕ) (r : LongReading) (e : r ≡ read_long s) where
  reader_told : r.number ≡ long_refusal s
  reader_told = ap (λ (x : LongReading). x.number) e ∙ long_number s

  pub write_back_refused :
      (r.number ≡ 0 → ⊥) → ◌≡◌ {A = LongWritten} (record { number = r.number; bytes = zero_long_bytes }) (long_write_back s)
  unfolding long_write_back not_long
  write_back_refused m =
      let some : long_refusal s ≡ 0 → ⊥ = λ n. m (reader_told ∙ n) in
      rw (ne_eqb (long_refusal s) 0 some, reader_told)

  pub write_back_taken :
      Bytes s → r.number ≡ 0 → (w : LongWritten) → w ≡ write_long r.value → w ≡ long_write_back s
  unfolding long_write_back
  write_back_taken b z w f =
      let t = long_taken s (sym reader_told ∙ z) in
      let v = ap (λ (x : LongReading). x.value) (e ∙ t.gives) in
      let n : long_refusal s ≡ 0 = sym reader_told ∙ z in
      rw (eq-eqb (long_refusal s) 0 n) (f ∙ ap write_long v ∙ long_write_after_read s t.long b t.kept)
