-- A yes or no as a bit is at most 1, and n bits make a number below 2 ^ n.
use Prim.Native.Nat.{ℕ, zero, suc, ◌+◌, ◌*◌, ◌^◌, ◌≤◌, ◌<◌}
use native.Mathlib.Numerals.{add-one}
use native.Mathlib.Omega.{arith}
use mathlib.Core.Path.{◌≡◌}
use mathlib.Core.Logic.{⊎_elim}
use mathlib.Core.Bool.{Bool, true, false}
use mathlib.Core.List.{List}
use lib.ListN.{get_or}
use lib.Pow.{pow-lt}
use Rattle.std.proofs.lemmas.Bool.{cases_eq}
use Rattle.words.specs.Bits.{bit_of, bits_of}

pub bit_small : (b : Bool) → bit_of b ≤ 1
bit_small true = omega arith
bit_small false = omega arith

pub bits_more : (bits : List Bool) (n : ℕ) → bits_of bits (n + 1) ≡ 2 * bits_of bits n + bit_of (get_or bits n false)
unfolding bits_of
bits_more bits n = rw add-one

pub bits_below : (bits : List Bool) (n : ℕ) → bits_of bits n < 2 ^ n
unfolding bits_of
bits_below bits zero = omega arith
bits_below bits (suc n) = omega (arith, bits_below bits n, bit_small (get_or bits n false))

-- so there is room for one bit more where n is below 16
pub bits_fit : (bits : List Bool) (n : ℕ) → n < 16 → 2 * bits_of bits n + 1 < 65536
bits_fit bits n h =
    ⊎_elim
    (λ (e : n ≡ 15). rw e (omega (arith, bits_below bits 15)))
    (λ (e : n ≡ 15 → ⊥). omega (arith, bits_below bits n, pow-lt {i = n} {j = 15} (omega arith)))
    (cases_eq n 15)
