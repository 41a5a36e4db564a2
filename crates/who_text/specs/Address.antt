-- An address as a person asks for it: four hexadecimal digits and the end of the line.
use Rattle.std.specs.Prelude.{ℕ, ◌+◌, ◌*◌, ◌-◌, ◌%◌, Bool, true, false, cond, ◌&&◌, List, get_or, ltb, eqb, Option, Some, None}

-- an address that was read, or none
pub record Asked : Type 0 where
  pub there : Bool
  pub address : ℕ

-- the same from what the function answers
abbrev pub asked_of : Option ℕ → Asked
asked_of None = record { there = false; address = 0 }
asked_of (Some address) = record { there = true; address = address }

-- a digit's value, `0` to `9` and `A` to `F`; 16 for a byte that is none
unfoldable pub digit_of : ℕ → ℕ
digit_of b = cond (ltb b 48) 16 (cond (ltb b 58) (b - 48) (cond (ltb b 65) 16 (cond (ltb b 71) (b - 55) 16)))

unfoldable pub digit_at : List ℕ → ℕ → ℕ
digit_at line i = digit_of (get_or line i 0)

unfoldable pub four_digits : ℕ → ℕ → ℕ → ℕ → ℕ
four_digits a b c d = 4096 * (a % 16) + 256 * (b % 16) + 16 * (c % 16) + d % 16

-- four digits and a newline
unfoldable pub is_address : List ℕ → Bool
is_address line =
    ((ltb (digit_at line 0) 16 && ltb (digit_at line 1) 16) && (ltb (digit_at line 2) 16 && ltb (digit_at line 3) 16))
    && eqb (get_or line 4 0) 10

-- an address, or none
unfoldable pub address_in : List ℕ → Asked
address_in line =
    record {
      there = is_address line;
      address = cond (is_address line) (four_digits (digit_at line 0) (digit_at line 1) (digit_at line 2) (digit_at line 3)) 0;
    }
