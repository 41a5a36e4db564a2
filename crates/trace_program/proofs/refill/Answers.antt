-- The lines of a refill fit the buffer, since each is shorter than its record.
use Rattle.std.proofs.Common.{arith}
use Rattle.trace.proofs.Printed.{used_fits}
use Rattle.trace_program.proofs.refill.Goals as goal

pub print_all-written-requires : goal.print_all-written-requires
print_all-written-requires c = omega (arith, used_fits _ _ _ _ _ _ _ c.walk-w.ensures.back)
