-- A run that has ended stays where it is, and none takes more steps than turns.
use Rattle.std.proofs.Common.{arith, rules}
use Rattle.control.proofs.Runs.{reached_steps, reached_end}
use Rattle.control.proofs.run.run.Goals as goal

pub count_step-r-requires : goal.count_step-r-requires
count_step-r-requires c = omega (arith, reached_steps _ _ _ _ _ c.loop.invariant)

pub returns-then-not-is_going : goal.returns-then-not-is_going
returns-then-not-is_going c =
    reached_end _ _ _ _ _ _ c.loop.invariant (omega arith) (search rules)
