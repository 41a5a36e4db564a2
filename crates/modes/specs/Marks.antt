-- What a mode command in effect does to the marks.
use Rattle.std.specs.Prelude.{ℕ, Bool, true, false, cond, eqb}
use Rattle.modes.specs.declared.remembered.Marks.{Marks}
use Rattle.modes.specs.Remembered.{no_marks, with_other_bus, with_inhibit}
use Rattle.modes.specs.Code.{transmitter_shutdown, override_shutdown, inhibit_terminal_flag, override_inhibit, reset_terminal}

-- "a shut mark for each bus, set and cleared for the bus the command did not use, and an inhibit mark"; "reset clears
-- the three marks". No other code does anything to them: "selected shutdown and its override only store any word".
unfoldable pub marks_after : ℕ → Bool → Marks → Marks
marks_after code busB marks =
    cond (eqb code transmitter_shutdown) (with_other_bus marks busB true)
    (cond (eqb code override_shutdown) (with_other_bus marks busB false)
    (cond (eqb code inhibit_terminal_flag) (with_inhibit marks true)
    (cond (eqb code override_inhibit) (with_inhibit marks false) (cond (eqb code reset_terminal) no_marks marks))))
