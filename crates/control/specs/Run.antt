-- A run: "A run takes a step budget and returns the number of instructions carried out, equal to the steps of the
-- definition's machine".
use Rattle.std.specs.Prelude.{ℕ, zero, suc, ◌+◌, cond, List}
use Rattle.words.specs.Bits.{bit_of}
use Rattle.control.specs.declared.machine.Machine.{Machine}
use Rattle.control.specs.declared.machine.End.TheVariants.{Budget}
use Rattle.control.specs.declared.machine.Stand.{Stand}
use Rattle.control.specs.declared.run.Ran.{Ran}
use Rattle.control.specs.Machine.{is_going, is_carried_out}
use Rattle.control.specs.Step.{step_of}

-- before the first step, and after one
unfoldable pub begun : Machine → Ran
begun m = record { end = Budget; steps = 0; machine = m }

unfoldable pub stepped : Ran → Stand → Ran
stepped r s = record { end = s.end; steps = r.steps + bit_of (is_carried_out s.end); machine = s.machine }

-- one that has ended stays
unfoldable pub advanced : List ℕ → List ℕ → Ran → Ran
advanced ram trace r = cond (is_going r.end) (stepped r (step_of ram trace r.machine)) r

-- with a budget of n
unfoldable pub run_from : List ℕ → List ℕ → Ran → ℕ → Ran
run_from ram trace r zero = r
run_from ram trace r (suc n) = advanced ram trace (run_from ram trace r n)

abbrev pub run_for : List ℕ → List ℕ → Machine → ℕ → Ran
run_for ram trace m budget = run_from ram trace (begun m) budget
