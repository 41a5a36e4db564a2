-- The cases of both conversions, over plain variables.
use Prim.Native.Nat.{ℕ, ◌≤◌}
use native.Mathlib.Omega.{arith}
use mathlib.Core.Path.{◌≡◌, refl, sym, ap, ◌∙◌}
use mathlib.Core.Bool.{true, false}
use mathlib.Core.List.{List, [], ◌∷◌}
use lib.ListN.{length}
use lib.Seq.{take_all}
use borrow.Author.Tests.{eq-eqb, ne_eqb}
use Rattle.words.specs.Number.{going_back_loses}
use Rattle.words.specs.Refusal.{Test, ◌when◌, first_of}
use Rattle.words.proofs.Refusals.{first_stops, first_passes}
use Rattle.layout.specs.Layout.{reader_refusal, read_record}
use Rattle.layout.proofs.Inverse.{reader_takes}
use Rattle.layout.proofs.Trips.{read_number}
use Rattle.layout_long.specs.declared.reader.LongReading.{LongReading}
use Rattle.layout_long.specs.Long.{old_part, long_in, long_tests, long_refusal, read_long}
use Rattle.layout_long.specs.WritingLong.{with_zeros, not_long}
use Rattle.layout_long.specs.Conversion.{longer_of, loses_number, shorter_refusal, not_short, shorter_of}
use Rattle.layout_long.proofs.Cases.{long_number, long_taken}

-- ---- old to new

pub longer_refused : (s : List ℕ) → (reader_refusal s ≡ 0 → ⊥) → longer_of s ≡ not_long (reader_refusal s)
unfolding longer_of
longer_refused s m = rw (ne_eqb (reader_refusal s) 0 m)

pub longer_done : (s : List ℕ) → reader_refusal s ≡ 0 → longer_of s ≡ record { number = 0; bytes = with_zeros s }
unfolding longer_of
longer_done s z = rw (eq-eqb (reader_refusal s) 0 z)

pub not_longer : (s : List ℕ) → ((read_record s).number ≡ 0 → ⊥) → longer_of s ≡ not_long (read_record s).number
not_longer s m = rw (read_number s) (longer_refused s (λ z. m (read_number s ∙ z)))

pub read_long_enough : (s : List ℕ) → (read_record s).number ≡ 0 → length s ≡ 80
read_long_enough s z = (reader_takes s z).long

-- where the old record's reader takes it, its first 80 bytes are all
pub longer_first : (s : List ℕ) → (read_record s).number ≡ 0 → longer_of s ≡ record { number = 0; bytes = with_zeros (old_part s) }
longer_first s z =
    let h : length s ≤ 80 = omega (arith, read_long_enough s z) in
    rw (take_all 80 s h) (longer_done s (sym (read_number s) ∙ z))

-- ---- new to old

abbrev last : List ℕ → List Test
last s = going_back_loses when loses_number (long_in s) ∷ []

pub shorter_refused : (s : List ℕ) → (long_refusal s ≡ 0 → ⊥) → shorter_of s ≡ not_short (long_refusal s)
unfolding shorter_of shorter_refusal long_refusal
shorter_refused s m =
    let n = first_stops (long_tests s) (last s) refl m in rw (n, ne_eqb (first_of (long_tests s)) 0 m)

pub shorter_loses :
    (s : List ℕ) → long_refusal s ≡ 0 → loses_number (long_in s) ≡ true → shorter_of s ≡ not_short going_back_loses
unfolding shorter_of shorter_refusal long_refusal first_of
shorter_loses s z b = rw (first_passes (long_tests s) (last s) refl z, b)

pub shorter_done :
    (s : List ℕ) → long_refusal s ≡ 0 → loses_number (long_in s) ≡ false →
    shorter_of s ≡ record { number = 0; bytes = old_part s }
unfolding shorter_of shorter_refusal long_refusal first_of
shorter_done s z b = rw (first_passes (long_tests s) (last s) refl z, b)

pub not_shorter : (s : List ℕ) → ((read_long s).number ≡ 0 → ⊥) → shorter_of s ≡ not_short (read_long s).number
not_shorter s m = rw (long_number s) (shorter_refused s (λ z. m (long_number s ∙ z)))

pub long_enough : (s : List ℕ) → (read_long s).number ≡ 0 → length s ≡ 96
long_enough s z = (long_taken s (sym (long_number s) ∙ z)).long

value_read : (s : List ℕ) → (read_long s).number ≡ 0 → (read_long s).value ≡ long_in s
value_read s z = ap (λ (r : LongReading). r.value) (long_taken s (sym (long_number s) ∙ z)).gives

pub shorter_unkept :
    (s : List ℕ) → (read_long s).number ≡ 0 → loses_number (read_long s).value ≡ true → shorter_of s ≡ not_short going_back_loses
shorter_unkept s z b = shorter_loses s (sym (long_number s) ∙ z) (ap loses_number (sym (value_read s z)) ∙ b)

pub shorter_kept :
    (s : List ℕ) → (read_long s).number ≡ 0 → loses_number (read_long s).value ≡ false →
    shorter_of s ≡ record { number = 0; bytes = old_part s }
shorter_kept s z b = shorter_done s (sym (long_number s) ∙ z) (ap loses_number (sym (value_read s z)) ∙ b)
