-- Pieces of a long record: the zeros behind an old one, and the fields there.
use Prim.Native.Nat.{ℕ, zero, suc, ◌+◌, ◌<◌}
use native.Mathlib.Nat.{add-zero, add-suc}
use native.Mathlib.Omega.{arith}
use mathlib.Core.Path.{◌≡◌, refl, sym, ap, ◌∙◌}
use mathlib.Core.Bool.{Bool, true, ◌&&◌, and-true, and_assoc}
use mathlib.Core.List.{List}
use lib.ListN.{length, get_or, set, replicate, get_or-replicate}
use lib.Seq.{get_or-append-add, set-get_or, length-take-le}
use lib.Dec.{eqb}
use borrow.Author.Tests.{eqb-true}
use Rattle.words.proofs.Basics.{and_left, and_right}
use Rattle.layout.specs.Fields.{put_number, put_fields}
use Rattle.layout.specs.Layout.{are_zero}
use Rattle.layout.proofs.Numbers.{put_more, number_after}
use Rattle.layout.proofs.Places.{are_zero_at, are_zero_of}
use Rattle.layout_long.specs.declared.value.LongRecord.{LongRecord}
use Rattle.layout_long.specs.Long.{old_part}
use Rattle.layout_long.specs.WritingLong.{with_zeros, new_fields}

-- ---- bytes that are zero

-- a stretch is zero where both its parts are
zero_split :
    (s : List ℕ) (a n m : ℕ) → are_zero s a (n + m) ≡ (are_zero s a n && are_zero s (a + n) m)
unfolding are_zero
zero_split s a n zero = rw (add-zero, and-true)
zero_split s a n (suc m) =
    let place : a + (n + m) ≡ a + n + m = omega arith in
    let last = eqb (get_or s (a + n + m) 0) 0 in
    rw (add-suc, zero_split s a n m, place) (and_assoc (are_zero s a n) (are_zero s (a + n) m) last)

pub four_zero :
    (s : List ℕ) (from : ℕ) →
    (((eqb (get_or s from 0) 0 && eqb (get_or s (from + 1) 0) 0) && eqb (get_or s (from + 2) 0) 0)
    && eqb (get_or s (from + 3) 0) 0)
    ≡ are_zero s from 4
unfolding are_zero
four_zero s from = rw add-zero

pub end_split :
    (s : List ℕ) → ((are_zero s 84 4 && are_zero s 88 4) && are_zero s 92 4) ≡ are_zero s 84 12
end_split s =
    sym
    (zero_split s 84 8 4 ∙ ap (λ (b : Bool). b && are_zero s 92 4) (zero_split s 84 4 4))

-- the zeros behind an old record
pub zeros_behind : (s : List ℕ) (k : ℕ) → length s ≡ 80 → k < 16 → get_or (with_zeros s) (80 + k) 0 ≡ 0
zeros_behind s k h l =
    let e : 80 + k ≡ length s + k = omega arith in
    ap (λ (j : ℕ). get_or (with_zeros s) j 0) e
    ∙ get_or-append-add s (replicate 16 0) k 0
    ∙ get_or-replicate {A = ℕ} 16 k 0 0 l

pub end_of_zeros : (s : List ℕ) → length s ≡ 80 → are_zero (with_zeros s) 84 12 ≡ true
end_of_zeros s h =
    are_zero_of (with_zeros s) 84 12
    (λ k l.
    let e : 84 + k ≡ 80 + (4 + k) = omega arith in
    ap (λ (j : ℕ). get_or (with_zeros s) j 0) e ∙ zeros_behind s (4 + k) h (omega arith))

pub room_zero : (s a : List ℕ) → a ≡ with_zeros (old_part s) → length s ≡ 80 → are_zero a 84 12 ≡ true
room_zero s a e h = rw e (end_of_zeros (old_part s) (length-take-le 80 s (omega arith)))

-- ---- fields behind the old part

set_same : (s : List ℕ) (k x : ℕ) → get_or s k 0 ≡ x → set s k x ≡ s
set_same s k x e = rw (← e) (set-get_or s k 0)

-- zero put where all is zero
zeros_again : (s : List ℕ) (i n : ℕ) → are_zero s i n ≡ true → put_number s i n 0 ≡ s
unfolding put_number are_zero
zeros_again s i zero e = refl
zeros_again s i (suc n) e =
    let last = eqb-true (get_or s (i + n) 0) 0 (and_right (are_zero s i n) _ e) in
    rw (put_more s i n 0, zeros_again s i n (and_left _ _ e)) (set_same s (i + n) 0 last)

-- the last of the new fields is zero as it stands
pub new_put :
    (s : List ℕ) (v : LongRecord) → are_zero s 84 12 ≡ true →
    put_number (put_number s 80 2 v.upper) 82 2 v.member ≡ put_fields (new_fields v) s
unfolding new_fields put_fields
new_put s v z =
    let half = put_number s 80 2 v.upper in
    let both = put_number half 82 2 v.member in
    sym
    (zeros_again both 84 12
    (are_zero_of both 84 12
    (λ k l.
    number_after half 82 2 v.member (84 + k) (omega arith)
    ∙ number_after s 80 2 v.upper (84 + k) (omega arith)
    ∙ are_zero_at s 84 12 k z l)))
