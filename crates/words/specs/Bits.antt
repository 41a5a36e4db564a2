-- A yes or no as a number, and a word from its bits.
use Rattle.std.specs.Prelude.{ℕ, zero, suc, ◌+◌, ◌*◌, Bool, true, false, List, get_or}

abbrev pub bit_of : Bool → ℕ
bit_of true = 1
bit_of false = 0

-- the number that the first n bits of the list make, the first bit highest
unfoldable pub bits_of : List Bool → ℕ → ℕ
bits_of bits zero = 0
bits_of bits (suc n) = 2 * bits_of bits n + bit_of (get_or bits n false)

-- a word of sixteen bits, from bit 15 down to bit 0
abbrev pub word_of : List Bool → ℕ
word_of bits = bits_of bits 16
