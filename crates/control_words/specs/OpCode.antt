-- The op code word of an instruction (document 000, 5.8.3). "The format of the op code word, which is illustrated in
-- Figure 11, includes a 5-bit op code field and a 5-bit condition code field."
use Rattle.std.specs.Prelude.{ℕ, zero, suc, ◌+◌, ◌/◌, ◌%◌, Bool, cond, ◌&&◌, eqb}
use Rattle.control_words.specs.declared.opcode.Operation.{Operation}
use Rattle.control_words.specs.declared.opcode.Operation.TheVariants.{Execute, Jump, Call, Return, Halt, Flag, Unknown}

-- how many of the lowest n bits are 1
unfoldable pub ones_below : ℕ → ℕ → ℕ
ones_below zero word = 0
ones_below (suc n) word = word % 2 + ones_below n (word / 2)

-- "The op code parity bit encompasses all sixteen bits of the op code word. This bit must be programmed for odd
-- parity."
unfoldable pub has_odd_parity : ℕ → Bool
has_odd_parity word = eqb (ones_below 16 word % 2) 1

-- bits 14-10
abbrev pub op_code_field : ℕ → ℕ
op_code_field word = word / 1024 % 32

-- "bits 9-5 of an op code word do not have a binary pattern of 01010": 01010 is ten
abbrev pub has_pattern : ℕ → Bool
has_pattern word = eqb (word / 32 % 32) 10

-- "Bits 3-0 of the condition code field identify the particular condition."
abbrev pub condition_field : ℕ → ℕ
condition_field word = word % 16

-- "Bit 4 of the condition code field identifies the logic sense": 1 inverts
abbrev pub is_inverted : ℕ → Bool
is_inverted word = eqb (word / 16 % 2) 1

-- the op codes of table 102 that request 14 names: "execute message, jump, call, return, halt, and set, clear and test
-- the general-purpose flags". The guide's others are unknown here.
unfoldable pub operation_coded : ℕ → Operation
operation_coded code =
    cond (eqb code 0x01) Execute
    (cond (eqb code 0x02) Jump
    (cond (eqb code 0x03) Call
    (cond (eqb code 0x04) Return
    (cond (eqb code 0x07) Halt
    (cond (eqb code 0x0C) Flag Unknown)))))

-- the op code of each; 0 is none
abbrev pub op_code_number : Operation → ℕ
op_code_number Execute = 0x01
op_code_number Jump = 0x02
op_code_number Call = 0x03
op_code_number Return = 0x04
op_code_number Halt = 0x07
op_code_number Flag = 0x0C
op_code_number Unknown = 0

-- "An illegal op code is one that is not defined, fails its parity check (bit 15), and/or has an incorrect value for one
-- or more of bits 9 through 5."
unfoldable pub operation_of : ℕ → Operation
operation_of word = cond (has_odd_parity word && has_pattern word) (operation_coded (op_code_field word)) Unknown
