-- The general-purpose flags after the instruction FLG: "set, clear and test the general-purpose flags".
use Rattle.std.specs.Prelude.{ℕ, zero, suc, ◌+◌, ◌*◌, ◌/◌, ◌%◌, Bool, true, false, not, eqb}
use Rattle.words.specs.Bits.{bit_of}

-- "Bit 8 Bit 0 Effect on GP0 0 0 No Change 0 1 Set Flag 1 0 Clear Flag 1 1 Toggle Flag"
abbrev pub flag_after : (clear set flag : Bool) → Bool
flag_after false false flag = flag
flag_after false true flag = true
flag_after true false flag = false
flag_after true true flag = not flag

-- whether the lowest bit is 1
abbrev pub is_odd : ℕ → Bool
is_odd n = eqb (n % 2) 1

-- the lowest n flags, each by its own bit of two numbers
unfoldable pub flags_below : ℕ → (clear set flags : ℕ) → ℕ
flags_below zero clear set flags = 0
flags_below (suc n) clear set flags =
    2 * flags_below n (clear / 2) (set / 2) (flags / 2) + bit_of (flag_after (is_odd clear) (is_odd set) (is_odd flags))

-- "Bits 1 and 9 of the parameter byte affect flag GP1, bits 2 and 10 affect GP2, etc."
unfoldable pub flags_after : ℕ → ℕ → ℕ
flags_after flags parameter = flags_below 8 (parameter / 256) (parameter % 256) flags
