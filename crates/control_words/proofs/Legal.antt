-- Which words are instructions, by their fields: for each of the six op codes and each of the 32 conditions exactly one of
-- the two words that differ in bit 15. So 192 of all 65,536 words are; a run of all of them counts it.
use Prim.Native.Nat.{ℕ, zero, suc, ◌+◌, ◌*◌, ◌/◌, ◌%◌, ◌<◌}
use native.Mathlib.Omega.{arith}
use mathlib.Core.Path.{◌≡◌, refl, sym, ap, ◌∙◌}
use mathlib.Core.Bool.{Bool, true, false, not, cond, ◌&&◌}
use lib.Dec.{eqb}
use lib.Count.{ones, ones_cat}
use borrow.Author.Tests.{eq-eqb}
use Rattle.control_words.specs.declared.opcode.Operation.TheVariants.{Unknown}
use Rattle.control_words.specs.OpCode.{ones_below, has_odd_parity, op_code_field, has_pattern, operation_coded, operation_of}
use Rattle.control_words.proofs.Parity.{ones_below_lem}

-- a word from its fields
abbrev pub word_with : (parity code pattern condition : ℕ) → ℕ
word_with parity code pattern condition = parity * 32768 + code * 1024 + pattern * 32 + condition

-- every word is one
pub from_fields : (w : ℕ) → w < 65536 → w ≡ word_with (w / 32768) (w / 1024 % 32) (w / 32 % 32) (w % 32)
from_fields w h = omega arith

and_yes : (b : Bool) → (b && true) ≡ b
and_yes true = refl
and_yes false = refl

and_no : (b : Bool) → (b && false) ≡ false
and_no true = refl
and_no false = refl

-- a word with the pattern 01010 names the operation of its op code, if its parity is odd
pub fields_say :
    (parity code condition : ℕ) →
    parity < 2 →
    code < 32 →
    condition < 32 →
    operation_of (word_with parity code 10 condition)
    ≡ cond (has_odd_parity (word_with parity code 10 condition)) (operation_coded code) Unknown
unfolding operation_of
fields_say parity code condition hp hc hd =
    let w = word_with parity code 10 condition in
    let p : w / 32 % 32 ≡ 10 = omega arith in
    let c : op_code_field w ≡ code = omega arith in
    rw (eq-eqb (w / 32 % 32) 10 p, c, and_yes (has_odd_parity w))

-- and with any other pattern none
pub pattern_says :
    (w : ℕ) → has_pattern w ≡ false → operation_of w ≡ Unknown
unfolding operation_of
pattern_says w h = rw (h, and_no (has_odd_parity w))

flipped : (n : ℕ) → eqb ((1 + n) % 2) 1 ≡ not (eqb (n % 2) 1)
flipped zero = refl
flipped (suc zero) = refl
flipped (suc (suc n)) =
    let e : (1 + suc (suc n)) % 2 ≡ (1 + n) % 2 = omega arith in
    let f : suc (suc n) % 2 ≡ n % 2 = omega arith in
    rw (e, f) (flipped n)

-- of two words that differ in bit 15 exactly one has odd parity
pub one_parity : (w : ℕ) → w < 32768 → has_odd_parity (32768 + w) ≡ not (has_odd_parity w)
unfolding has_odd_parity ones ones_below
one_parity w h =
    let high : ones_below 16 (32768 + w) ≡ 1 + ones_below 16 w =
    sym (ones_below_lem 16 (32768 + w) (omega arith)) ∙ ones_cat 15 1 w h ∙ ap (λ (k : ℕ). 1 + k) (ones_below_lem 16 w (omega arith)) in
    rw high (flipped (ones_below 16 w))
