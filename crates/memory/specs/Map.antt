-- The memory map (document 01, "Memory map (hexadecimal)").
use Rattle.std.specs.Prelude.{ℕ, ◌+◌, ◌*◌, ◌/◌, ◌%◌, ◌^◌, Bool, not, ◌||◌, List, get_or, eqb}
use Rattle.words.specs.declared.settings.Area.{Area}
use Rattle.words.specs.declared.settings.Area.TheVariants.{A, B}
use Rattle.words.specs.Bits.{bit_of}
use Rattle.words.specs.Command.{transmits, subaddress_of, count_field}

-- refusal 1: "RAM is not 4,096 words"; "Newer cards have 65,536 words; the same terminal must take either RAM.", and 1
-- is "for any other length". No other rule names the RAM's length.
unfoldable pub ram_refused : ℕ → Bool
ram_refused words = not (eqb words 4096 || eqb words 65536)

-- "0100 / 0104: stack pointer, area A / B"
unfoldable pub stack_pointer_place : Area → ℕ
stack_pointer_place A = 0x100
stack_pointer_place B = 0x104

-- "0140 / 01C0: lookup tables, A / B"
unfoldable pub lookup_table : Area → ℕ
lookup_table A = 0x140
lookup_table B = 0x1C0

-- "32 receive pointers, 32 transmit, 32 broadcast": the pointer of a cell stands at its number
abbrev pub lookup_place : Area → ℕ → ℕ
lookup_place area cell = lookup_table area + cell

-- ".. 32 subaddress control words"
abbrev pub control_place : Area → ℕ → ℕ
control_place area sub = lookup_table area + 96 + sub

-- "Bit 1 means busy or illegal."
abbrev pub bit_set : ℕ → ℕ → Bool
bit_set word bit = eqb (word / 2 ^ bit % 2) 1

-- "busy: word 0240 + 4·own + 2·transmit + (sub / 16), bit sub mod 16"
unfoldable pub busy_place : Bool → ℕ → ℕ
busy_place own command = 0x240 + 4 * bit_of own + 2 * bit_of (transmits command) + subaddress_of command / 16

unfoldable pub is_busy_at : List ℕ → Bool → ℕ → Bool
is_busy_at ram own command = bit_set (get_or ram (busy_place own command) 0) (subaddress_of command % 16)

-- "illegal: word 0300 + 128·own + 64·transmit + 2·sub + (count field / 16), bit count field mod 16"
unfoldable pub illegal_place : Bool → ℕ → ℕ
illegal_place own command =
    0x300 + 128 * bit_of own + 64 * bit_of (transmits command) + 2 * subaddress_of command + count_field command / 16

unfoldable pub is_illegal_at : List ℕ → Bool → ℕ → Bool
is_illegal_at ram own command = bit_set (get_or ram (illegal_place own command) 0) (count_field command % 16)
