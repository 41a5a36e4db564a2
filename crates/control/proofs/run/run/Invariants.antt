-- The run stands where as many steps lead as turns were made.
use Rattle.std.proofs.Common.{◌≡◌}
use Rattle.control.specs.Run.{begun, run_from}
use Rattle.control.proofs.run.run.Given as goal

abbrev pub invariant-loop : goal.invariant-loop
invariant-loop l =
    l.r ≡ run_from l.ram l.trace (begun l.fn.m) l.counter
