-- The eight flags worked out at once, by the bits of three numbers; and what each flag is afterwards.
use Prim.Native.Nat.{ℕ, zero, suc, ◌+◌, ◌-◌, ◌*◌, ◌/◌, ◌%◌, ◌^◌, ◌<◌, ◌≤◌, min, max}
use native.Mathlib.Omega.{arith}
use mathlib.Core.Path.{◌≡◌, refl, sym, ◌∙◌}
use lib.Bits.{bit_and, bit_or, and_step, or_step, and_zero_l, or_zero_l, block_half, block_odd}
use lib.Dec.{eqb}
use Rattle.words.specs.Bits.{bit_of}
use Rattle.control_words.specs.Flags.{flag_after, flags_below, flags_after}

-- what the code works out, of n flags
abbrev together : ℕ → ℕ → ℕ → ℕ → ℕ
together n clear set flags = bit_or (bit_and flags (2 ^ n - 1 - clear)) (bit_and set (2 ^ n - 1 - flags))

-- one flag so
abbrev one : ℕ → ℕ → ℕ → ℕ
one c s f = max (min f (1 - c)) (min s (1 - f))

one_says : (c s f : ℕ) → c < 2 → s < 2 → f < 2 → one c s f ≡ bit_of (flag_after (eqb c 1) (eqb s 1) (eqb f 1))
one_says zero zero zero hc hs hf = refl
one_says zero zero (suc zero) hc hs hf = refl
one_says zero (suc zero) zero hc hs hf = refl
one_says zero (suc zero) (suc zero) hc hs hf = refl
one_says (suc zero) zero zero hc hs hf = refl
one_says (suc zero) zero (suc zero) hc hs hf = refl
one_says (suc zero) (suc zero) zero hc hs hf = refl
one_says (suc zero) (suc zero) (suc zero) hc hs hf = refl
one_says (suc (suc c)) s f hc hs hf = omega arith
one_says zero (suc (suc s)) f hc hs hf = omega arith
one_says (suc zero) (suc (suc s)) f hc hs hf = omega arith
one_says zero zero (suc (suc f)) hc hs hf = omega arith
one_says zero (suc zero) (suc (suc f)) hc hs hf = omega arith
one_says (suc zero) zero (suc (suc f)) hc hs hf = omega arith
one_says (suc zero) (suc zero) (suc (suc f)) hc hs hf = omega arith

-- an `and` with what is left of n + 1 ones
and_left_over :
    (n a b : ℕ) → b < 2 ^ suc n →
    bit_and a (2 ^ suc n - 1 - b) ≡ bit_and (a / 2) (2 ^ n - 1 - b / 2) * 2 + min (a % 2) (1 - b % 2)
and_left_over n a b h =
    let e : (2 ^ suc n - 1 - b) / 2 ≡ 2 ^ n - 1 - b / 2 = omega arith in
    let f : (2 ^ suc n - 1 - b) % 2 ≡ 1 - b % 2 = omega arith in
    and_step a (2 ^ suc n - 1 - b) ∙ rw (e, f)

or_pair : (x y u v : ℕ) → u ≤ 1 → v ≤ 1 → bit_or (x * 2 + u) (y * 2 + v) ≡ bit_or x y * 2 + max u v
or_pair x y u v hu hv =
    let p : (x * 2 + u) / 2 ≡ x = omega arith in
    let q : (y * 2 + v) / 2 ≡ y = omega arith in
    let r : (x * 2 + u) % 2 ≡ u = omega arith in
    let s : (y * 2 + v) % 2 ≡ v = omega arith in
    or_step (x * 2 + u) (y * 2 + v) ∙ rw (p, q, r, s)

together_more :
    (n clear set flags : ℕ) → clear < 2 ^ suc n → flags < 2 ^ suc n →
    together (suc n) clear set flags
    ≡ together n (clear / 2) (set / 2) (flags / 2) * 2 + one (clear % 2) (set % 2) (flags % 2)
together_more n clear set flags hc hf =
    rw (and_left_over n flags clear hc, and_left_over n set flags hf)
    (or_pair (bit_and (flags / 2) (2 ^ n - 1 - clear / 2)) (bit_and (set / 2) (2 ^ n - 1 - flags / 2))
    (min (flags % 2) (1 - clear % 2)) (min (set % 2) (1 - flags % 2)) (omega arith) (omega arith))

together_says :
    (n clear set flags : ℕ) → clear < 2 ^ n → set < 2 ^ n → flags < 2 ^ n →
    together n clear set flags ≡ flags_below n clear set flags
unfolding flags_below
together_says zero clear set flags hc hs hf =
    let f : flags ≡ 0 = omega arith in
    let s : set ≡ 0 = omega arith in
    rw (f, s, and_zero_l (1 - 1 - clear), and_zero_l (1 - 1 - 0), or_zero_l 0)
together_says (suc n) clear set flags hc hs hf =
    let e = together_says n (clear / 2) (set / 2) (flags / 2) (omega arith) (omega arith) (omega arith) in
    let d = one_says (clear % 2) (set % 2) (flags % 2) (omega arith) (omega arith) (omega arith) in
    together_more n clear set flags hc hf ∙ rw (e, d) (omega arith)

-- flags above the n-th make no difference: what the flags are is worked out from r, and q is what stands above
below_cut : (n clear set q r : ℕ) → flags_below n clear set (q * 2 ^ n + r) ≡ flags_below n clear set r
unfolding flags_below
below_cut zero clear set q r = refl
below_cut (suc n) clear set q r =
    rw (block_half q n r, block_odd q n r, below_cut n (clear / 2) (set / 2) q (r / 2))

pub flags_by_bits :
    (flags parameter : ℕ) → parameter < 65536 →
    bit_or (bit_and (flags % 256) (255 - parameter / 256)) (bit_and (parameter % 256) (255 - flags % 256))
    ≡ flags_after flags parameter
unfolding flags_after
flags_by_bits flags parameter h =
    let e : flags / 256 * 2 ^ 8 + flags % 256 ≡ flags = omega arith in
    together_says 8 (parameter / 256) (parameter % 256) (flags % 256) (omega arith) (omega arith) (omega arith)
    ∙ sym (below_cut 8 (parameter / 256) (parameter % 256) (flags / 256) (flags % 256))
    ∙ rw e
