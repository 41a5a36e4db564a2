-- What stands in the table of hexadecimal digits.
use Prim.Native.Nat.{ℕ, ◌+◌, ◌*◌, ◌/◌, ◌%◌, ◌<◌}
use native.Mathlib.Omega.{arith}
use mathlib.Core.Path.{◌≡◌, ◌∙◌}
use mathlib.Core.List.{[], ◌∷◌}
use lib.ListN.{length, get_or, set, replicate, length-replicate}
use borrow.Author.Tests.{eq-eqb, ne_eqb}
use Rattle.words.specs.Fill.{fill}
use Rattle.words.proofs.Fill.{length_fill, fill_at, fill_more}
use Rattle.text.specs.Text.{hex_digit, hex_text}
use Rattle.text.specs.Table.{table_digit, hex_table}

pub length_table : length hex_table ≡ 512
unfolding hex_table
length_table = length_fill 0 table_digit (replicate 512 0) 512 ∙ length-replicate {A = ℕ} 512 0

at_table : (i : ℕ) → i < 512 → get_or hex_table i 0 ≡ table_digit i
unfolding hex_table
at_table i h = fill_at table_digit (replicate 512 0) 512 i (rw (length-replicate {A = ℕ} 512 0) (omega arith)) h

-- the first digit of a byte, and the second
pub first_digit : (b : ℕ) → b < 256 → get_or hex_table (2 * b) 0 ≡ hex_digit (b / 16)
unfolding table_digit
first_digit b h =
    let e : 2 * b % 2 ≡ 0 = omega arith in
    let f : 2 * b / 32 ≡ b / 16 = omega arith in
    rw (at_table (2 * b) (omega arith), eq-eqb (2 * b % 2) 0 e, f)

pub second_digit : (b : ℕ) → b < 256 → get_or hex_table (2 * b + 1) 0 ≡ hex_digit (b % 16)
unfolding table_digit
second_digit b h =
    let e : ((2 * b + 1) % 2 ≡ 0 → ⊥) = λ z. omega arith in
    let f : (2 * b + 1) / 2 % 16 ≡ b % 16 = omega arith in
    rw (at_table (2 * b + 1) (omega arith), ne_eqb ((2 * b + 1) % 2) 0 e, f)

-- a word's four digits are those of its two bytes
pub word_text :
    (w : ℕ) →
    w < 65536 →
    hex_digit (w / 256 / 16) ∷ hex_digit (w / 256 % 16) ∷ hex_digit (w % 256 / 16) ∷ hex_digit (w % 256 % 16) ∷ []
    ≡ hex_text w
unfolding hex_text
word_text w h =
    let a : w / 256 / 16 ≡ w / 4096 % 16 = omega arith in
    let c : w % 256 / 16 ≡ w / 16 % 16 = omega arith in
    let d : w % 256 % 16 ≡ w % 16 = omega arith in
    rw (a, c, d)

-- the table, two places at a time
pub fill_pair :
    (b : ℕ) →
    b < 256 →
    set (set (fill table_digit (replicate 512 0) (2 * b)) (2 * b) (hex_digit (b / 16))) (2 * b + 1) (hex_digit (b % 16))
    ≡ fill table_digit (replicate 512 0) (2 * (b + 1))
unfolding table_digit
fill_pair b h =
    let z : 2 * b % 2 ≡ 0 = omega arith in
    let f : 2 * b / 32 ≡ b / 16 = omega arith in
    let n : ((2 * b + 1) % 2 ≡ 0 → ⊥) = λ e. omega arith in
    let g : (2 * b + 1) / 2 % 16 ≡ b % 16 = omega arith in
    let t : 2 * (b + 1) ≡ 2 * b + 1 + 1 = omega arith in
    rw (
      t,
      fill_more table_digit (replicate 512 0) (2 * b + 1),
      fill_more table_digit (replicate 512 0) (2 * b),
      eq-eqb (2 * b % 2) 0 z,
      ne_eqb ((2 * b + 1) % 2) 0 n,
      f,
      g,
    )
