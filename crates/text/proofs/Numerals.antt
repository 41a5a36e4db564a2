-- Decimal digits: how many, and two at a time.
use Prim.Native.Nat.{ℕ, zero, suc, ◌+◌, ◌*◌, ◌/◌, ◌%◌, ◌^◌, ◌<◌, ◌≤◌}
use native.Mathlib.Nat.{pow-succ'}
use native.Mathlib.Omega.{arith}
use mathlib.Core.Path.{◌≡◌, refl}
use mathlib.Core.Logic.{⊎_elim}
use mathlib.Core.List.{[], ◌∷◌, ◌++◌, append_assoc}
use lib.ListN.{length, length-append}
use borrow.Author.Tests.{lt-ltb, le-ltb}
use Rattle.words.proofs.Basics.{lt_or_ge}
use Rattle.text.specs.Text.{digits, places_up_to, decimal_text}

pub length_digits : (k n : ℕ) → length (digits k n) ≡ k
unfolding digits
length_digits zero n = refl
length_digits (suc k) n =
    rw (length-append, length_digits k (n / 10)) (omega arith)

places_one : (most n : ℕ) → n < 10 → places_up_to most n ≡ 1
unfolding places_up_to
places_one zero n h = refl
places_one (suc most) n h = simp (lt-ltb n 10 h)

places_more : (most n : ℕ) → 10 ≤ n → places_up_to (suc most) n ≡ suc (places_up_to most (n / 10))
unfolding places_up_to
places_more most n h = simp (le-ltb n 10 h)

places_most : (most n : ℕ) → places_up_to most n ≤ suc most
unfolding places_up_to
places_most zero n = omega arith
places_most (suc most) n =
    ⊎_elim (λ h. rw (places_one (suc most) n h) (omega arith))
    (λ h. rw (places_more most n h) (omega (arith, places_most most (n / 10))))
    (lt_or_ge n 10)

length_decimal : (n : ℕ) → length (decimal_text n) ≡ places_up_to 19 n
unfolding decimal_text
length_decimal n = length_digits (places_up_to 19 n) n

-- a number has at most 20 digits
pub decimal_most : (n : ℕ) → length (decimal_text n) ≤ 20
decimal_most n = rw length_decimal (places_most 19 n)

-- how many digits a number has does not hang on how far one counts
places_same : (k a b n : ℕ) → n < 10 ^ suc k → places_up_to (k + a) n ≡ places_up_to (k + b) n
places_same zero a b n h =
    let small : n < 10 = omega arith in rw (places_one (0 + a) n small, places_one (0 + b) n small)
places_same (suc k) a b n h =
    let p : n < 10 * 10 ^ suc k = rw pow-succ' at h in
    let ea : suc k + a ≡ suc (k + a) = omega arith in
    let eb : suc k + b ≡ suc (k + b) = omega arith in
    rw (ea, eb)
    (⊎_elim (λ s. rw (places_one (suc (k + a)) n s, places_one (suc (k + b)) n s))
    (λ l. rw (places_more (k + a) n l, places_more (k + b) n l, places_same k a b (n / 10) (omega arith)))
    (lt_or_ge n 10))

digits_pair : (j n : ℕ) → digits (suc (suc j)) n ≡ digits j (n / 100) ++ digits 2 n
unfolding digits
digits_pair j n =
    let e : n / 10 / 10 ≡ n / 100 = omega arith in
    rw (e, append_assoc (digits j (n / 100)) ((48 + n / 10 % 10) ∷ []) ((48 + n % 10) ∷ []))

-- a number of more than two digits: those in front of the last two, and these
pub decimal_pair : (n : ℕ) → 100 ≤ n → n < 2 ^ 64 → decimal_text n ≡ decimal_text (n / 100) ++ digits 2 n
unfolding decimal_text
decimal_pair n h l =
    let e : n / 10 / 10 ≡ n / 100 = omega arith in
    let m : n / 100 < 10 ^ 18 = omega arith in
    let p : places_up_to 19 n ≡ suc (suc (places_up_to 19 (n / 100))) =
    rw (places_more 18 n (omega arith), places_more 17 (n / 10) (omega arith), e, places_same 17 0 2 (n / 100) m) in
    rw (p, digits_pair)

-- the last digit, and those in front of it
pub decimal_less : (n : ℕ) → 10 ≤ n → n < 2 ^ 64 → length (decimal_text n) ≡ 1 + length (decimal_text (n / 10))
decimal_less n h l =
    let m : n / 10 < 10 ^ 19 = omega arith in
    rw (length_decimal, length_decimal, places_more 18 n h, places_same 18 0 1 (n / 10) m) (omega arith)

-- one of more than four: those in front, the two before the last two, and these
pub decimal_pairs :
    (n : ℕ) → 10000 ≤ n → n < 2 ^ 64 → decimal_text n ≡ decimal_text (n / 10000) ++ digits 2 (n / 100) ++ digits 2 n
decimal_pairs n h l =
    let e : n / 100 / 100 ≡ n / 10000 = omega arith in
    rw (decimal_pair n (omega arith) l, decimal_pair (n / 100) (omega arith) (omega arith), e)

pub decimal_one : (n : ℕ) → n < 10 → decimal_text n ≡ (48 + n) ∷ []
unfolding decimal_text digits
decimal_one n h = let e : n % 10 ≡ n = omega arith in rw (places_one 19 n h, e)

pub length_one : (n : ℕ) → n < 10 → length (decimal_text n) ≡ 1
length_one n h = rw (length_decimal, places_one 19 n h)

pub decimal_two : (n : ℕ) → 10 ≤ n → n < 100 → decimal_text n ≡ digits 2 n
unfolding decimal_text
decimal_two n h l = rw (places_more 18 n h, places_one 18 (n / 10) (omega arith))

-- only the last two digits count
pub pair_last : (n : ℕ) → digits 2 (n % 100) ≡ digits 2 n
unfolding digits
pair_last n =
    let e : n % 100 / 10 % 10 ≡ n / 10 % 10 = omega arith in
    let f : n % 100 % 10 ≡ n % 10 = omega arith in rw (e, f)

-- of the last four digits, the first two and the last two
pub pair_before : (n : ℕ) → digits 2 (n % 10000 / 100) ≡ digits 2 (n / 100)
pair_before n = let e : n % 10000 / 100 ≡ n / 100 % 100 = omega arith in rw (e, pair_last)

pub pair_after : (n : ℕ) → digits 2 (n % 10000 % 100) ≡ digits 2 n
pair_after n = let e : n % 10000 % 100 ≡ n % 100 = omega arith in rw (e, pair_last)
