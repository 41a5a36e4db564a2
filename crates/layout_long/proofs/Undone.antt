-- "each undoes the other wherever going back is allowed": old to new and back, new to old and on again, with no condition
-- but that the first is not refused. And where going back is refused with 10.
use Prim.Native.Nat.{ℕ, ◌+◌, ◌-◌, ◌<◌, ◌≤◌}
use native.Mathlib.Omega.{arith}
use mathlib.Core.Path.{◌≡◌, refl, sym, ap, ◌∙◌}
use mathlib.Core.Logic.{◌↔◌, ⊎_elim}
use mathlib.Core.Bool.{true, false, not}
use mathlib.Core.List.{List}
use lib.ListN.{length, get_or, replicate, length-append, get_or-append}
use lib.Seq.{ext_get_or, get_or-take, take_at}
use lib.Dec.{eqb}
use borrow.Author.Tests.{eqb-true, not-false}
use Rattle.words.specs.Number.{going_back_loses}
use Rattle.words.proofs.Basics.{yes_or_no, eq_or_ne, lt_or_ge, not_both, or_left, or_right}
use Rattle.words.proofs.Refusals.{first_at_most}
use Rattle.layout.specs.declared.reader.Reading.{Reading}
use Rattle.layout.specs.declared.writer.Written.{Written}
use Rattle.layout.specs.Layout.{word_at, are_zero, breaks_layout, reader_refusal}
use Rattle.layout.proofs.Cases.{read_good}
use Rattle.layout.proofs.Inverse.{reader_takes}
use Rattle.layout.proofs.Numbers.{zeros_number, number_zeros}
use Rattle.layout.proofs.Places.{are_zero_at, are_zero_of}
use Rattle.layout.proofs.Trips.{read_number}
use Rattle.layout_long.specs.declared.reader.LongReading.{LongReading}
use Rattle.layout_long.specs.declared.writer.LongWritten.{LongWritten}
use Rattle.layout_long.specs.Long.{old_part, long_in, breaks_long, long_tests, long_refusal}
use Rattle.layout_long.specs.WritingLong.{with_zeros, not_long}
use Rattle.layout_long.specs.Conversion.{longer_of, loses_number, not_short, shorter_of}
use Rattle.layout_long.proofs.Pieces.{zeros_behind, end_of_zeros}
use Rattle.layout_long.proofs.Cases.{long_number, long_good, old_long, unbroken, long_taken}
use Rattle.layout_long.proofs.Inverse.{long_kept}
use Rattle.layout_long.proofs.Conversions.{longer_refused, longer_done, shorter_refused, shorter_loses, shorter_done}

-- ---- a new record of sound layout

zero_not_ten : ◌≡◌ {A = ℕ} 0 10 → ⊥
zero_not_ten e = omega arith

long_refusal_few : (s : List ℕ) → long_refusal s ≤ 5
unfolding long_refusal
long_refusal_few s = first_at_most 5 (long_tests s) refl

pub sound_long : (s : List ℕ) → length s ≡ 96 → breaks_long s ≡ false → long_refusal s ≡ 0
sound_long s h b = sym (long_number s) ∙ ap (λ (r : LongReading). r.number) (long_good s h b)

-- bytes 80-83 are zero where neither number would be lost
pub keeps_numbers : (s : List ℕ) → are_zero s 80 4 ≡ true → loses_number (long_in s) ≡ false
unfolding loses_number long_in
keeps_numbers s z =
    let e : are_zero s 80 2 ≡ true = are_zero_of s 80 2 (λ k l. are_zero_at s 80 4 k z (omega arith)) in
    let f : are_zero s 82 2 ≡ true =
    are_zero_of s 82 2
    (λ k l.
    let g : 82 + k ≡ 80 + (2 + k) = omega arith in
    ap (λ (j : ℕ). get_or s j 0) g ∙ are_zero_at s 80 4 (2 + k) z (omega arith)) in
    rw (zeros_number s 80 2 e, zeros_number s 82 2 f)

zero_word : (w : ℕ) → not (eqb w 0) ≡ false → w ≡ 0
zero_word w e = eqb-true w 0 (not-false (eqb w 0) e)

pub numbers_kept : (s : List ℕ) → loses_number (long_in s) ≡ false → are_zero s 80 4 ≡ true
unfolding loses_number long_in
numbers_kept s b =
    let upper = number_zeros s 80 2 (zero_word (word_at s 80) (or_left (not (eqb (word_at s 80) 0)) (not (eqb (word_at s 82) 0)) b)) in
    let member = number_zeros s 82 2 (zero_word (word_at s 82) (or_right (not (eqb (word_at s 80) 0)) (not (eqb (word_at s 82) 0)) b)) in
    are_zero_of s 80 4
    (λ k l.
    ⊎_elim
    (λ early. are_zero_at s 80 2 k upper early)
    (λ late.
    let g : 80 + k ≡ 82 + (k - 2) = omega arith in
    ap (λ (j : ℕ). get_or s j 0) g ∙ are_zero_at s 82 2 (k - 2) member (omega arith))
    (lt_or_ge k 2))

-- "10 when going back would lose": exactly where one of bytes 80-83 is not 0, in a record of sound layout
pub record Loses (s : List ℕ) : Type 0 where
  pub long : length s ≡ 96
  pub sound : breaks_long s ≡ false
  pub some : are_zero s 80 4 ≡ false

pub loses_of : (s : List ℕ) → Loses s → (shorter_of s).number ≡ going_back_loses
unfolding not_short
loses_of s l =
    ⊎_elim
    (λ b. ap (λ (w : Written). w.number) (shorter_loses s (sound_long s l.long l.sound) b))
    (λ b. absurd (not_both (are_zero s 80 4) (numbers_kept s b) l.some))
    (yes_or_no (loses_number (long_in s)))

pub of_loses : (s : List ℕ) → (shorter_of s).number ≡ going_back_loses → Loses s
unfolding not_short
of_loses s e =
    ⊎_elim
    (λ (z : long_refusal s ≡ 0).
    let t = long_taken s z in
    ⊎_elim
    (λ zero.
    let n = ap (λ (w : Written). w.number) (shorter_done s z (keeps_numbers s zero)) in
    absurd (zero_not_ten (sym n ∙ e)))
    (λ some. record { long = t.long; sound = t.kept; some = some })
    (yes_or_no (are_zero s 80 4)))
    (λ (m : long_refusal s ≡ 0 → ⊥).
    let n = ap (λ (w : Written). w.number) (shorter_refused s m) in
    let few = long_refusal_few s in
    let ten : long_refusal s ≡ 10 = sym n ∙ e in
    absurd (omega arith))
    (eq_or_ne (long_refusal s) 0)

pub loses : (s : List ℕ) → ((shorter_of s).number ≡ going_back_loses) ↔ Loses s
loses s = (of_loses s, loses_of s)

-- ---- there and back

-- an old record that its reader takes, and sixteen zeros behind it
module _ (s : List ℕ) (z : reader_refusal s ≡ 0) where
  abbrev new : List ℕ
  new = with_zeros s

  taken_long : length s ≡ 80
  taken_long = (reader_takes s (read_number s ∙ z)).long

  new_long : length new ≡ 96
  new_long = length-append s (replicate 16 0) ∙ rw taken_long

  old_same : old_part new ≡ s
  old_same = take_at s (replicate 16 0) 80 taken_long

  new_sound : breaks_long new ≡ false
  new_sound =
      unbroken new (ap breaks_layout old_same ∙ (reader_takes s (read_number s ∙ z)).kept) (end_of_zeros s taken_long)

  new_zero : are_zero new 80 4 ≡ true
  new_zero = are_zero_of new 80 4 (λ k l. zeros_behind s k taken_long (omega arith))

  back_again : shorter_of new ≡ record { number = 0; bytes = s }
  back_again =
      shorter_done new (sound_long new new_long new_sound) (keeps_numbers new new_zero) ∙ rw old_same

longer_allows : (s : List ℕ) → (longer_of s).number ≡ 0 → reader_refusal s ≡ 0
unfolding not_long
longer_allows s e =
    ⊎_elim
    (λ z. z)
    (λ (m : reader_refusal s ≡ 0 → ⊥). absurd (m (sym (ap (λ (w : LongWritten). w.number) (longer_refused s m)) ∙ e)))
    (eq_or_ne (reader_refusal s) 0)

pub longer_gives : (s : List ℕ) → (longer_of s).number ≡ 0 → (longer_of s).bytes ≡ with_zeros s
longer_gives s e = ap (λ (w : LongWritten). w.bytes) (longer_done s (longer_allows s e))

-- "Convert old to new .., and new to old": the same 80 bytes
pub there_and_back :
    (s : List ℕ) → (longer_of s).number ≡ 0 → shorter_of (longer_of s).bytes ≡ record { number = 0; bytes = s }
there_and_back s e =
    let z = longer_allows s e in
    ap (λ (w : LongWritten). shorter_of w.bytes) (longer_done s z) ∙ back_again s z

-- ---- back and there

pub record Shortened (s : List ℕ) : Type 0 where
  pub long : length s ≡ 96
  pub sound : breaks_long s ≡ false
  pub zero : are_zero s 80 4 ≡ true
  pub gives : shorter_of s ≡ record { number = 0; bytes = old_part s }

pub shorter_allows : (s : List ℕ) → (shorter_of s).number ≡ 0 → Shortened s
unfolding not_short
shorter_allows s e =
    ⊎_elim
    (λ (z : long_refusal s ≡ 0).
    let t = long_taken s z in
    ⊎_elim
    (λ b. let n = ap (λ (w : Written). w.number) (shorter_loses s z b) in absurd (zero_not_ten (sym e ∙ n)))
    (λ b. record { long = t.long; sound = t.kept; zero = numbers_kept s b; gives = shorter_done s z b })
    (yes_or_no (loses_number (long_in s))))
    (λ (m : long_refusal s ≡ 0 → ⊥). absurd (m (sym (ap (λ (w : Written). w.number) (shorter_refused s m)) ∙ e)))
    (eq_or_ne (long_refusal s) 0)

-- its last sixteen bytes are zero
zero_from : (s : List ℕ) → Shortened s → (k : ℕ) → k < 16 → get_or s (80 + k) 0 ≡ 0
zero_from s t k l =
    ⊎_elim
    (λ early. are_zero_at s 80 4 k t.zero early)
    (λ late.
    let e : 80 + k ≡ 84 + (k - 4) = omega arith in
    ap (λ (j : ℕ). get_or s j 0) e ∙ are_zero_at s 84 12 (k - 4) (long_kept s t.sound).end (omega arith))
    (lt_or_ge k 4)

-- the old part and sixteen zeros are the whole record
whole_again : (s : List ℕ) → Shortened s → with_zeros (old_part s) ≡ s
whole_again s t =
    let o = old_part s in
    let h = old_long s t.long in
    let long = length-append o (replicate 16 0) in
    ext_get_or 0 (with_zeros o) s (long ∙ rw h (sym t.long))
    (λ i l.
    ⊎_elim
    (λ early. get_or-append o (replicate 16 0) 0 i (omega (arith, h)) ∙ get_or-take 80 s i 0 early)
    (λ late.
    let e : i ≡ 80 + (i - 80) = omega arith in
    let few : i - 80 < 16 = omega (arith, long, h) in
    ap (λ (j : ℕ). get_or (with_zeros o) j 0) e
    ∙ zeros_behind o (i - 80) h few
    ∙ sym (ap (λ (j : ℕ). get_or s j 0) e ∙ zero_from s t (i - 80) few))
    (lt_or_ge i 80))

-- "and new to old": on again, the same 96
pub back_and_there :
    (s : List ℕ) → (shorter_of s).number ≡ 0 → longer_of (shorter_of s).bytes ≡ record { number = 0; bytes = s }
back_and_there s e =
    let t = shorter_allows s e in
    let o = old_part s in
    let k = long_kept s t.sound in
    let z : reader_refusal o ≡ 0 =
    sym (read_number o) ∙ ap (λ (r : Reading). r.number) (read_good o (old_long s t.long) k.old) in
    ap (λ (w : Written). longer_of w.bytes) t.gives ∙ longer_done o z ∙ rw (whole_again s t)
