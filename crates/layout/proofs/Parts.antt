-- Bytes tested for zero in parts: a part's bytes are those of the whole, and parts that cover a stretch stand for all of
-- it.
use Prim.Native.Nat.{ℕ, zero, suc, ◌+◌, ◌-◌, ◌*◌, ◌/◌, ◌%◌, ◌<◌, ◌≤◌, min}
use native.Mathlib.Nat.{zero-add}
use native.Mathlib.Numerals.{add-one}
use native.Mathlib.Omega.{arith}
use mathlib.Core.Path.{◌≡◌, refl, sym, ◌∙◌}
use mathlib.Core.Logic.{⊎_elim}
use mathlib.Core.Bool.{Bool, true, false, ◌&&◌}
use mathlib.Core.List.{List}
use lib.ListN.{length, get_or, take, drop, get_or-eq_default}
use lib.Seq.{get_or-take, get_or-drop, length-take-le, take_all}
use lib.Dec.{eqb}
use Rattle.std.specs.List.{fold}
use Rattle.std.proofs.lemmas.List.{length-drop}
use Rattle.std.proofs.lemmas.List.Sums.{fold_more}
use Rattle.words.proofs.Basics.{lt_or_ge, and_both, and_left, and_right}
use Rattle.records.specs.Value.{lasts_zero}
use Rattle.layout.specs.Layout.{are_zero, words_in}
use Rattle.layout.proofs.Numbers.{zeros_number, number_zeros}
use Rattle.layout.proofs.Places.{are_zero_at, are_zero_of, word_at_lem, lasts_zero_at, lasts_zero_of}

same_truth : (a b : Bool) → (a ≡ true → b ≡ true) → (b ≡ true → a ≡ true) → a ≡ b
same_truth true b f g = sym (f refl)
same_truth false true f g = g refl
same_truth false false f g = refl

-- ---- all bytes of a list

abbrev pub zero_too : Bool → ℕ → Bool
zero_too so_far byte = so_far && eqb byte 0

firsts_zero : (s : List ℕ) (n : ℕ) → n ≤ length s → fold zero_too true (take n s) ≡ are_zero s 0 n
unfolding are_zero
firsts_zero s zero h = refl
firsts_zero s (suc n) h =
    let more = fold_more zero_too true s n 0 (omega arith) in
    rw add-one at more ∙ rw (firsts_zero s n (omega arith), zero-add n)

pub all_zero : (s : List ℕ) → fold zero_too true s ≡ are_zero s 0 (length s)
all_zero s = rw (take_all (length s) s (omega arith)) at (firsts_zero s (length s) (omega arith))

-- ---- a part as a list of its own

zero_same :
    (s t : List ℕ) (i j n : ℕ) → ((k : ℕ) → k < n → get_or s (i + k) 0 ≡ get_or t (j + k) 0) → are_zero s i n ≡ are_zero t j n
unfolding are_zero
zero_same s t i j zero h = refl
zero_same s t i j (suc n) h = rw (zero_same s t i j n (λ k l. h k (omega arith)), h n (omega arith))

pub part_zero :
    (s : List ℕ) (from n m : ℕ) → m ≡ n → from + n ≤ length s → fold zero_too true (take m (drop from s)) ≡ are_zero s from n
part_zero s from n m e h =
    let few : n ≤ length (drop from s) = omega (arith, length-drop from s) in
    let long = length-take-le n (drop from s) few in
    rw (e, all_zero (take n (drop from s)), long)
    (zero_same (take n (drop from s)) s 0 from n
    (λ k l. rw (zero-add k) (get_or-take n (drop from s) k 0 l ∙ get_or-drop from s k 0)))

-- bytes past the end are zero, so a test may stop where the list does
pub zero_inside :
    (s : List ℕ) (from n start m : ℕ) → start ≡ min from (length s) → m ≡ min n (length s - start) →
    are_zero s start m ≡ are_zero s from n
zero_inside s from n start m e f =
    same_truth (are_zero s start m) (are_zero s from n)
    (λ z.
    are_zero_of s from n
    (λ k l.
    ⊎_elim
    (λ inside.
    let g : from ≡ start = omega arith in
    rw g (are_zero_at s start m k z (omega arith)))
    (λ past. get_or-eq_default s 0 {n = from + k} past)
    (lt_or_ge (from + k) (length s))))
    (λ z.
    are_zero_of s start m
    (λ k l.
    let g : start ≡ from = omega arith in
    rw g (are_zero_at s from n k z (omega arith))))

-- two parts that cover a stretch
zero_cover :
    (s : List ℕ) (a m b n l : ℕ) → a ≤ b → b ≤ a + m → b + n ≡ a + l →
    are_zero s a m ≡ true → are_zero s b n ≡ true → are_zero s a l ≡ true
zero_cover s a m b n l low seam end p q =
    are_zero_of s a l
    (λ k h.
    ⊎_elim
    (λ early. are_zero_at s a m k p early)
    (λ late.
    let e : a + k ≡ b + (a + k - b) = omega arith in
    rw e (are_zero_at s b n (a + k - b) q (omega arith)))
    (lt_or_ge k m))

-- a part of a stretch
zero_part :
    (s : List ℕ) (a l b n : ℕ) → a ≤ b → b + n ≤ a + l → are_zero s a l ≡ true → are_zero s b n ≡ true
zero_part s a l b n low end p =
    are_zero_of s b n
    (λ k h.
    let e : b + k ≡ a + (b + k - a) = omega arith in
    rw e (are_zero_at s a l (b + k - a) p (omega arith)))

-- ---- the words after the count

-- the first 56 bytes from `from` on, and the last eight
pub rest_zero :
    (s : List ℕ) (from : ℕ) → 16 ≤ from → from ≤ 24 →
    (are_zero s from 56 && are_zero s 72 8) ≡ are_zero s from (80 - from)
rest_zero s from low high =
    let first = are_zero s from 56 in
    let last = are_zero s 72 8 in
    same_truth (first && last) (are_zero s from (80 - from))
    (λ both. zero_cover s from 56 72 8 (80 - from) (omega arith) (omega arith) (omega arith) (and_left first last both) (and_right first last both))
    (λ all.
    and_both first last
    (zero_part s from (80 - from) from 56 (omega arith) (omega arith) all)
    (zero_part s from (80 - from) 72 8 (omega arith) (omega arith) all))

-- the words after the count, as bytes
pub lasts_zero_bytes :
    (s : List ℕ) (count : ℕ) → count ≤ 32 →
    are_zero s (16 + 2 * count) (80 - (16 + 2 * count)) ≡ lasts_zero (words_in s) count 32
lasts_zero_bytes s count few =
    let from = 16 + 2 * count in
    same_truth (are_zero s from (80 - from)) (lasts_zero (words_in s) count 32)
    (λ z.
    lasts_zero_of (words_in s) count 32
    (λ k late l.
    let pair = zero_part s from (80 - from) (16 + 2 * k) 2 (omega arith) (omega arith) z in
    word_at_lem s k l ∙ zeros_number s (16 + 2 * k) 2 pair))
    (λ z.
    are_zero_of s from (80 - from)
    (λ k l.
    let word = count + k / 2 in
    let zero = lasts_zero_at (words_in s) count 32 word z (omega arith) (omega arith) in
    let pair = number_zeros s (16 + 2 * word) 2 (sym (word_at_lem s word (omega arith)) ∙ zero) in
    let e : from + k ≡ 16 + 2 * word + k % 2 = omega arith in
    rw e (are_zero_at s (16 + 2 * word) 2 (k % 2) pair (omega arith))))
