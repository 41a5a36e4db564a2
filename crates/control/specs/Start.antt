-- The entry points' refusals: "Refusals: 1, then 15 for a start address with fewer than two words left."
use Rattle.std.specs.Prelude.{ℕ, ◌%◌, not, cond, List, [], ◌∷◌, length, eqb}
use Rattle.words.specs.Number.{ram_length}
use Rattle.control_words.specs.Number.{no_room_to_start}
use Rattle.words.specs.Refusal.{Test, ◌when◌, first_of}
use Rattle.memory.specs.Map.{ram_refused}
use Rattle.control.specs.declared.machine.Machine.{Machine}
use Rattle.control.specs.declared.machine.End.TheVariants.{Refused}
use Rattle.control.specs.declared.run.Ran.{Ran}
use Rattle.control.specs.Machine.{machine_at}
use Rattle.control.specs.Step.{has_pair}
use Rattle.control.specs.Run.{run_for}

-- "Result: the number, the rest zero"
unfoldable pub not_run : ℕ → Ran
not_run number = record { end = Refused number; steps = 0; machine = machine_at 0 0 }

-- a run from a start address
abbrev pub start_tests : List ℕ → ℕ → List Test
start_tests ram start = ram_length when ram_refused (length ram) ∷ no_room_to_start when not (has_pair ram start) ∷ []

unfoldable pub start_refusal : List ℕ → ℕ → ℕ
start_refusal ram start = first_of (start_tests ram start)

-- the starting flags are the lowest eight bits that the caller gives
unfoldable pub started_at : List ℕ → List ℕ → (start flags budget : ℕ) → Ran
started_at ram trace start flags budget =
    cond (eqb (start_refusal ram start) 0) (run_for ram trace (machine_at start (flags % 256)) budget)
    (not_run (start_refusal ram start))

-- a run that goes on from what one left: it is given no start
abbrev pub go_on_tests : List ℕ → List Test
go_on_tests ram = ram_length when ram_refused (length ram) ∷ []

unfoldable pub go_on_refusal : List ℕ → ℕ
go_on_refusal ram = first_of (go_on_tests ram)

unfoldable pub gone_on : List ℕ → List ℕ → Machine → ℕ → Ran
gone_on ram trace m budget =
    cond (eqb (go_on_refusal ram) 0) (run_for ram trace m budget) (not_run (go_on_refusal ram))
