-- One number in a record's bytes, for any place and any width: what is put is read, and what is read and put back
-- changes nothing.
use Prim.Native.Nat.{ℕ, zero, suc, ◌+◌, ◌*◌, ◌/◌, ◌%◌, ◌^◌, ◌<◌, ◌≤◌}
use native.Mathlib.Nat.{zero-add, add-zero, mod-one}
use native.Mathlib.Omega.{arith}
use mathlib.Core.Path.{◌≡◌, refl, sym, ◌∙◌}
use mathlib.Core.Logic.{⊎_elim}
use mathlib.Core.Bool.{true}
use mathlib.Core.List.{List}
use lib.ListN.{length, get_or, set, length-set}
use lib.Seq.{get_or-set_same, get_or-set_other, set_out, set-get_or}
use lib.Pow.{mod-pow-add}
use borrow.Author.Tests.{eqb-true, eq-eqb}
use Rattle.words.proofs.Basics.{lt_or_ge, eq_or_ne, and_left, and_right}
use Rattle.layout.specs.Fields.{number_at, put_number}
use Rattle.layout.specs.Layout.{Bytes, are_zero}

-- one byte more, also the first
number_more : (s : List ℕ) (i n : ℕ) → number_at s i (suc n) ≡ number_at s i n * 256 + get_or s (i + n) 0
number_more s i zero = simp (zero-add, add-zero)
number_more s i (suc n) = refl

pub put_more : (s : List ℕ) (i n x : ℕ) → put_number s i (suc n) x ≡ set (put_number s i n (x / 256)) (i + n) (x % 256)
unfolding put_number
put_more s i zero x = simp add-zero
put_more s i (suc n) x = refl

pub length_number : (s : List ℕ) (i n x : ℕ) → length (put_number s i n x) ≡ length s
unfolding put_number
length_number s i zero x = refl
length_number s i (suc n) x = rw (put_more, length-set) (length_number s i n (x / 256))

-- a place before the number
pub number_before : (s : List ℕ) (i n x k : ℕ) → k < i → get_or (put_number s i n x) k 0 ≡ get_or s k 0
unfolding put_number
number_before s i zero x k l = refl
number_before s i (suc n) x k l =
    let p : (k ≡ i + n → ⊥) = λ e. omega arith in
    rw (put_more, get_or-set_other) (number_before s i n (x / 256) k l)

-- a place behind it
pub number_after : (s : List ℕ) (i n x k : ℕ) → i + n ≤ k → get_or (put_number s i n x) k 0 ≡ get_or s k 0
unfolding put_number
number_after s i zero x k l = refl
number_after s i (suc n) x k l =
    let p : (k ≡ i + n → ⊥) = λ e. omega arith in
    rw (put_more, get_or-set_other) (number_after s i n (x / 256) k (omega arith))

-- what stood in its place before does not matter
pub number_anew :
    (s t : List ℕ) (i n x k : ℕ) → i + n ≤ length s → i + n ≤ length t → ((j : ℕ) → j < i → get_or s j 0 ≡ get_or t j 0) →
    k < i + n → get_or (put_number s i n x) k 0 ≡ get_or (put_number t i n x) k 0
unfolding put_number
number_anew s t i zero x k a b h l = h k (omega arith)
number_anew s t i (suc n) x k a b h l =
    let low = x % 256 in
    let p = put_number s i n (x / 256) in
    let q = put_number t i n (x / 256) in
    rw (put_more s i n x, put_more t i n x)
    (⊎_elim
    (λ last.
    rw last
    (get_or-set_same p (i + n) low 0 (omega (arith, length_number s i n (x / 256)))
    ∙ sym (get_or-set_same q (i + n) low 0 (omega (arith, length_number t i n (x / 256))))))
    (λ ne.
    rw (get_or-set_other p (i + n) k low 0 ne, get_or-set_other q (i + n) k low 0 ne)
    (number_anew s t i n (x / 256) k (omega arith) (omega arith) h (omega arith)))
    (eq_or_ne k (i + n)))

-- bytes that agree up to its end have the same number
pub number_same :
    (s t : List ℕ) (i n : ℕ) → ((k : ℕ) → k < i + n → get_or s k 0 ≡ get_or t k 0) → number_at s i n ≡ number_at t i n
number_same s t i zero h = refl
number_same s t i (suc n) h =
    rw (number_more s i n, number_more t i n, number_same s t i n (λ k l. h k (omega arith)), h (i + n) (omega arith))

-- what is put is read, as far as the bytes hold it
pub number_put : (s : List ℕ) (i n x : ℕ) → i + n ≤ length s → number_at (put_number s i n x) i n ≡ x % 2 ^ (8 * n)
unfolding put_number
number_put s i zero x h = sym (mod-one x)
number_put s i (suc n) x h =
    let low = x % 256 in
    let p = put_number s i n (x / 256) in
    let high : number_at (set p (i + n) low) i n ≡ number_at p i n =
    number_same (set p (i + n) low) p i n (λ k l. get_or-set_other p (i + n) k low 0 (λ e. omega arith)) in
    let last : get_or (set p (i + n) low) (i + n) 0 ≡ low =
    get_or-set_same p (i + n) low 0 (omega (arith, length_number s i n (x / 256))) in
    let bits : 8 * suc n ≡ 8 * n + 8 = omega arith in
    rw (
      number_more (put_number s i (suc n) x) i n,
      put_more s i n x,
      high,
      last,
      number_put s i n (x / 256) (omega arith),
      bits,
    )
    (sym (mod-pow-add x (8 * n) 8))

-- what is read and put back changes nothing
pub number_again : (s : List ℕ) (i n : ℕ) → Bytes s → put_number s i n (number_at s i n) ≡ s
unfolding put_number
number_again s i zero b = refl
number_again s i (suc n) b =
    let x = number_at s i n in
    let y = get_or s (i + n) 0 in
    let high : (x * 256 + y) / 256 ≡ x = omega (arith, b (i + n)) in
    let low : (x * 256 + y) % 256 ≡ y = omega (arith, b (i + n)) in
    rw (put_more s i n (number_at s i (suc n)), number_more s i n, high, low, number_again s i n b)
    (set-get_or s (i + n) 0)

-- zero bytes are the number 0
pub zeros_number : (s : List ℕ) (i n : ℕ) → are_zero s i n ≡ true → number_at s i n ≡ 0
unfolding are_zero
zeros_number s i zero e = refl
zeros_number s i (suc n) e =
    let last = eqb-true (get_or s (i + n) 0) 0 (and_right (are_zero s i n) _ e) in
    rw (number_more s i n, zeros_number s i n (and_left _ _ e), last)

pub number_zeros : (s : List ℕ) (i n : ℕ) → number_at s i n ≡ 0 → are_zero s i n ≡ true
unfolding are_zero
number_zeros s i zero e = refl
number_zeros s i (suc n) e =
    let f = sym (number_more s i n) ∙ e in
    rw (number_zeros s i n (omega arith), eq-eqb (get_or s (i + n) 0) 0 (omega arith))

-- what is put are bytes
bytes_set : (s : List ℕ) (i x : ℕ) → Bytes s → x < 256 → Bytes (set s i x)
bytes_set s i x b h k =
    ⊎_elim
    (λ e.
    ⊎_elim
    (λ inside. rw e (rw (get_or-set_same s i x 0 inside) h))
    (λ outside. rw (set_out s i x outside) (b k))
    (lt_or_ge i (length s)))
    (λ ne. rw (get_or-set_other s i k x 0 ne) (b k))
    (eq_or_ne k i)

pub bytes_number : (s : List ℕ) (i n x : ℕ) → Bytes s → Bytes (put_number s i n x)
unfolding put_number
bytes_number s i zero x b = b
bytes_number s i (suc n) x b =
    let high = bytes_number s i n (x / 256) b in
    rw (put_more s i n x) (bytes_set (put_number s i n (x / 256)) (i + n) (x % 256) high (omega arith))
