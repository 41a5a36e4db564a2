-- The marks that mode commands set and clear. "The remembered state gains a shut mark for each bus, set and cleared for
-- the bus the command did not use, and an inhibit mark."
use Rattle.std.specs.Prelude.{Bool, false, cond}
use Rattle.modes.specs.declared.remembered.Marks.{Marks}

-- at first no mark is set
abbrev pub no_marks : Marks
no_marks = record { shut_a = false; shut_b = false; inhibited = false }

-- whether the bus of a message is shut: bus B where the yes or no says so, else bus A
abbrev pub is_shut : Marks → Bool → Bool
is_shut marks busB = cond busB marks.shut_b marks.shut_a

-- "set and cleared for the bus the command did not use"
abbrev pub with_other_bus : Marks → Bool → Bool → Marks
with_other_bus marks busB shut =
    record {
      shut_a = cond busB shut marks.shut_a;
      shut_b = cond busB marks.shut_b shut;
      inhibited = marks.inhibited;
    }

abbrev pub with_inhibit : Marks → Bool → Marks
with_inhibit marks inhibited =
    record { shut_a = marks.shut_a; shut_b = marks.shut_b; inhibited = inhibited }
