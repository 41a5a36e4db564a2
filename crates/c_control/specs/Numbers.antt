-- The controller's machine and what a run tells (document 02, request 14) as plain numbers.
use Rattle.std.specs.Prelude.{ℕ, ◌+◌, ◌*◌, ◌/◌, ◌%◌, min, cond, List, [], ◌∷◌, get_or, eqb}
use Rattle.words.specs.Bits.{bit_of}
use Rattle.control_words.specs.declared.condition.Outcome.{Outcome}
use Rattle.control.specs.declared.machine.Machine.{Machine}
use Rattle.control.specs.declared.run.Ran.{Ran}
use Rattle.control.specs.Machine.{refusal_in, end_kind}
use Rattle.c_words.specs.Over.{over}

-- what the last message told, its three yes or no added up
unfoldable pub last_number : Outcome → ℕ
last_number o = bit_of o.no_status + 2 * bit_of o.other_fault + 4 * bit_of o.good_transfer

unfoldable pub last_from : ℕ → Outcome
last_from n =
    record {
      no_status = eqb (n % 2) 1;
      other_fault = eqb (n / 2 % 2) 1;
      good_transfer = eqb (n / 4 % 2) 1;
    }

-- nine numbers: pointer, flags, last message, depth, four calls, the trace's place
unfoldable pub machine_numbers : Machine → List ℕ
machine_numbers m =
    m.pointer
    ∷ m.flags
    ∷ last_number m.last
    ∷ m.depth
    ∷ get_or m.calls 0 0
    ∷ get_or m.calls 1 0
    ∷ get_or m.calls 2 0
    ∷ get_or m.calls 3 0
    ∷ m.place
    ∷ []

-- and back: any numbers are a machine. Flags are eight bits; a depth over four is four, as the call stack holds no more.
unfoldable pub machine_from : List ℕ → Machine
machine_from xs =
    record {
      pointer = get_or xs 0 0;
      flags = get_or xs 1 0 % 256;
      last = last_from (get_or xs 2 0);
      depth = min (get_or xs 3 0) 4;
      calls = get_or xs 4 0 ∷ get_or xs 5 0 ∷ get_or xs 6 0 ∷ get_or xs 7 0 ∷ [];
      place = get_or xs 8 0;
    }

-- what a run leaves in a lent machine: a refusal keeps its contents
unfoldable pub machine_left : List ℕ → Ran → List ℕ
machine_left xs r = cond (eqb (refusal_in r.end) 0) (over xs (machine_numbers r.machine)) xs

-- what a run tells: how it ended, and its steps
abbrev pub ran_length : ℕ
ran_length = 2

unfoldable pub ran_numbers : Ran → List ℕ
ran_numbers r = end_kind r.end ∷ r.steps ∷ []
