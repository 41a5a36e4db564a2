-- The command word. "Command word: bits 15-11 RT address, 10 transmit, 9-5 subaddress, 4-0 word count, where 0 means
-- 32."
use Rattle.std.specs.Prelude.{ℕ, ◌/◌, ◌%◌, Bool, cond, ◌||◌, eqb}

-- bits 15-11 RT address
abbrev pub address_of : ℕ → ℕ
address_of command = command / 2048

-- 10 transmit
abbrev pub transmits : ℕ → Bool
transmits command = eqb (command / 1024 % 2) 1

-- 9-5 subaddress
abbrev pub subaddress_of : ℕ → ℕ
subaddress_of command = command / 32 % 32

-- bits 4-0 as they stand: the illegal table is read by this field
abbrev pub count_field : ℕ → ℕ
count_field command = command % 32

-- 4-0 word count, where 0 means 32
unfoldable pub word_count : ℕ → ℕ
word_count command = cond (eqb (count_field command) 0) 32 (count_field command)

-- "subaddress 0 or 31"
unfoldable pub is_mode_subaddress : ℕ → Bool
is_mode_subaddress command = eqb (subaddress_of command) 0 || eqb (subaddress_of command) 31
