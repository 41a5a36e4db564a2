-- The table of the 32 mode codes. "A constant table of the 32 codes says, for each, which transmit bit, data word and
-- broadcast are allowed by MIL-STD-1553B."
use Rattle.std.specs.Prelude.{ℕ, ◌%◌, Bool, true, false, List, [], ◌∷◌, get_or}
use Rattle.modes.specs.declared.table.Mode.{Mode}

-- a code that the standard defines: its transmit bit, whether a data word goes with it, whether it may be broadcast
abbrev defined : Bool → Bool → Bool → Mode
defined transmit word broadcast =
    record { defined = true; transmit = transmit; word = word; broadcast = broadcast }

-- a reserved code
abbrev pub reserved : Mode
reserved = record { defined = false; transmit = false; word = false; broadcast = false }

unfoldable pub modes : List Mode
modes =
    -- 0 dynamic bus control
    defined true false false
    -- 1 synchronize
    ∷ defined true false true
    -- 2 transmit status word
    ∷ defined true false false
    -- 3 initiate self-test
    ∷ defined true false true
    -- 4 transmitter shutdown, and 5 its override
    ∷ defined true false true
    ∷ defined true false true
    -- 6 inhibit terminal flag, and 7 its override
    ∷ defined true false true
    ∷ defined true false true
    -- 8 reset remote terminal
    ∷ defined true false true
    -- 9 to 15
    ∷ reserved
    ∷ reserved
    ∷ reserved
    ∷ reserved
    ∷ reserved
    ∷ reserved
    ∷ reserved
    -- 16 transmit vector word
    ∷ defined true true false
    -- 17 synchronize with data word
    ∷ defined false true true
    -- 18 transmit last command
    ∷ defined true true false
    -- 19 transmit BIT word
    ∷ defined true true false
    -- 20 selected transmitter shutdown, and 21 its override
    ∷ defined false true true
    ∷ defined false true true
    -- 22 to 31
    ∷ reserved
    ∷ reserved
    ∷ reserved
    ∷ reserved
    ∷ reserved
    ∷ reserved
    ∷ reserved
    ∷ reserved
    ∷ reserved
    ∷ reserved
    ∷ []

-- the entry of a code, which is the count field of a mode command
unfoldable pub mode_of : ℕ → Mode
mode_of code = get_or modes (code % 32) reserved
