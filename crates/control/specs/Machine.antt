-- The controller's machine: what stands between two instructions, how an instruction moves it, and how a run ends.
use Rattle.std.specs.Prelude.{ℕ, ◌+◌, ◌-◌, Bool, true, false, get_or, set, replicate}
use Rattle.control_words.specs.declared.condition.Outcome.{Outcome}
use Rattle.control_words.specs.Condition.{no_outcome}
use Rattle.control_words.specs.Flags.{flags_after}
use Rattle.control.specs.declared.machine.Machine.{Machine}
use Rattle.control.specs.declared.machine.End.{End}
use Rattle.control.specs.declared.machine.End.TheVariants.{Budget, Halt, Bad, NoOutcome, Refused}
use Rattle.control.specs.declared.machine.Stand.{Stand}

-- "The instruction list pointer register references a pair of words in the BC instruction list": the next pair
abbrev pub next_pair : Machine → ℕ
next_pair m = m.pointer + 2

-- the machine with its pointer there
unfoldable pub moved_to : Machine → ℕ → Machine
moved_to m at =
    record { pointer = at; flags = m.flags; last = m.last; depth = m.depth; calls = m.calls; place = m.place }

-- "the instruction list pointer will skip down to the next instruction"
unfoldable pub moved_on : Machine → Machine
moved_on m = moved_to m (next_pair m)

-- "push the Address of the Next OpCode on the Call Stack"
unfoldable pub called_to : Machine → ℕ → Machine
called_to m at =
    record {
      pointer = at;
      flags = m.flags;
      last = m.last;
      depth = m.depth + 1;
      calls = set m.calls m.depth (next_pair m);
      place = m.place;
    }

-- "Return to the OpCode popped off the Call Stack"
unfoldable pub returned_from : Machine → Machine
returned_from m =
    record {
      pointer = get_or m.calls (m.depth - 1) 0;
      flags = m.flags;
      last = m.last;
      depth = m.depth - 1;
      calls = m.calls;
      place = m.place;
    }

-- "Used to set, toggle, or clear any or all of the eight general purpose flags."
unfoldable pub flagged_by : Machine → ℕ → Machine
flagged_by m parameter =
    record {
      pointer = next_pair m;
      flags = flags_after m.flags parameter;
      last = m.last;
      depth = m.depth;
      calls = m.calls;
      place = m.place;
    }

-- a message's outcome taken from the trace, and the trace's place after it
unfoldable pub heard_of : Machine → Outcome → ℕ → Machine
heard_of m outcome place =
    record {
      pointer = next_pair m;
      flags = m.flags;
      last = outcome;
      depth = m.depth;
      calls = m.calls;
      place = place;
    }

-- the machine before its first instruction: nothing heard, no call, the trace's start
unfoldable pub machine_at : (start flags : ℕ) → Machine
machine_at start flags =
    record { pointer = start; flags = flags; last = no_outcome; depth = 0; calls = replicate 4 0; place = 0 }

-- what a step leaves: going on, which only a budget ends, or an end
abbrev pub standing : End → Machine → Stand
standing end m = record { end = end; machine = m }

abbrev pub going_on : Machine → Stand
going_on m = standing Budget m

-- nothing but the budget has ended it
abbrev pub is_going : End → Bool
is_going Budget = true
is_going Halt = false
is_going Bad = false
is_going NoOutcome = false
is_going (Refused n) = false

-- an instruction that led here was carried out: one that goes on, and a halt; "a bad instruction, no outcome left for a
-- message" are none
abbrev pub is_carried_out : End → Bool
is_carried_out Budget = true
is_carried_out Halt = true
is_carried_out Bad = false
is_carried_out NoOutcome = false
is_carried_out (Refused n) = false

-- "halt, a bad instruction, no outcome left for a message and a used-up budget have different answers": the number that
-- refuses, or 0, and the kind of end, or 0
abbrev pub refusal_in : End → ℕ
refusal_in Budget = 0
refusal_in Halt = 0
refusal_in Bad = 0
refusal_in NoOutcome = 0
refusal_in (Refused n) = n

abbrev pub end_kind : End → ℕ
end_kind Halt = 1
end_kind Bad = 2
end_kind NoOutcome = 3
end_kind Budget = 4
end_kind (Refused n) = 0
