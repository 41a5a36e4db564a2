-- The ranges of a command word's fields.
use Prim.Native.Nat.{ℕ, ◌<◌, ◌≤◌}
use native.Mathlib.Omega.{arith}
use mathlib.Core.Path.{◌≡◌}
use mathlib.Core.Logic.{⊎_elim}
use mathlib.Core.Bool.{false}
use lib.Dec.{eqb}
use borrow.Author.Tests.{eq-eqb, ne_eqb, eqb-false}
use Rattle.words.specs.Command.{address_of, subaddress_of, count_field, word_count, is_mode_subaddress}
use Rattle.std.proofs.lemmas.Bool.{cases_eq}
use Rattle.words.proofs.Basics.{or_left, or_right}

pub address_small : (command : ℕ) → command < 65536 → address_of command < 32
address_small command h = omega arith

pub subaddress_small : (command : ℕ) → subaddress_of command < 32
subaddress_small command = omega arith

pub count_field_small : (command : ℕ) → count_field command < 32
count_field_small command = omega arith

-- "where 0 means 32"
pub word_count_zero : (command : ℕ) → count_field command ≡ 0 → word_count command ≡ 32
unfolding word_count
word_count_zero command h = simp (eq-eqb (count_field command) 0 h)

pub word_count_other : (command : ℕ) → (count_field command ≡ 0 → ⊥) → word_count command ≡ count_field command
unfolding word_count
word_count_other command h = simp (ne_eqb (count_field command) 0 h)

pub word_count_from : (command : ℕ) → 1 ≤ word_count command
word_count_from command =
    ⊎_elim
    (λ z. omega (arith, word_count_zero command z))
    (λ n. omega (arith, word_count_other command n))
    (cases_eq (count_field command) 0)

pub word_count_to : (command : ℕ) → word_count command ≤ 32
word_count_to command =
    ⊎_elim
    (λ z. omega (arith, word_count_zero command z))
    (λ n. omega (arith, word_count_other command n))
    (cases_eq (count_field command) 0)

-- "data messages at subaddresses 1 to 30"
pub record Data (command : ℕ) : Type 0 where
  pub from : 1 ≤ subaddress_of command
  pub to : subaddress_of command ≤ 30

pub data_subaddress : (command : ℕ) → is_mode_subaddress command ≡ false → Data command
unfolding is_mode_subaddress
data_subaddress command h =
    let low = eqb-false (subaddress_of command) 0 (or_left _ _ h) in
    let high = eqb-false (subaddress_of command) 31 (or_right (eqb (subaddress_of command) 0) _ h) in
    record { from = omega arith; to = omega arith }
