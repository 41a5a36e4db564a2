-- The condition of an instruction (document 000, table 103). "Eight of the condition codes (8 through F) are set or
-- cleared as the result of the most recent message. The other eight are defined as "General Purpose" condition codes GP0
-- through GP7."
use Rattle.std.specs.Prelude.{ℕ, Bool, true, false, not, cond, ◌||◌, ltb, eqb}
use Rattle.memory.specs.Map.{bit_set}
use Rattle.control_words.specs.declared.condition.Outcome.{Outcome}
use Rattle.control_words.specs.declared.opcode.Operation.{Operation}
use Rattle.control_words.specs.declared.opcode.Operation.TheVariants.{Execute, Jump, Call, Return, Halt, Flag, Unknown}
use Rattle.control_words.specs.OpCode.{condition_field, is_inverted}

-- before the first message nothing is known of one
unfoldable pub no_outcome : Outcome
no_outcome = record { no_status = false; other_fault = false; good_transfer = false }

-- 0 to 7 the flags; 8 "NORESP", 9 "FMT ERR", A "GD BLK XFER", C "BAD MESSAGE", F "ALWAYS". No record shows B, "MASKED
-- STATUS SET", nor a retry, D and E.
unfoldable pub condition_holds : ℕ → ℕ → Outcome → Bool
condition_holds code flags last =
    cond (ltb code 8) (bit_set flags code)
    (cond (eqb code 0x8) last.no_status
    (cond (eqb code 0x9) last.other_fault
    (cond (eqb code 0xA) last.good_transfer
    (cond (eqb code 0xC) (last.no_status || last.other_fault) (eqb code 0xF)))))

-- the condition of an op code word, with its sense
unfoldable pub condition_met : ℕ → ℕ → Outcome → Bool
condition_met word flags last =
    cond (is_inverted word) (not (condition_holds (condition_field word) flags last))
    (condition_holds (condition_field word) flags last)

-- "GP Flag Bits (FLG)" is unconditional: "the Condition Code Field is "don't care."" An unknown op code has no condition:
-- the fetch alone ends the run.
abbrev pub is_conditional : Operation → Bool
is_conditional Execute = true
is_conditional Jump = true
is_conditional Call = true
is_conditional Return = true
is_conditional Halt = true
is_conditional Flag = false
is_conditional Unknown = false

-- "they will only be executed if the condition code specified by the condition code field in the op code word tests
-- true."
unfoldable pub is_due : Operation → ℕ → ℕ → Outcome → Bool
is_due operation word flags last = not (is_conditional operation) || condition_met word flags last
