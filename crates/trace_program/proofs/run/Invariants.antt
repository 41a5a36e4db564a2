-- The lent slices keep their lengths.
use Rattle.std.proofs.Common.{length, ◌≡◌}
use Rattle.trace_program.proofs.run.Given as goal

abbrev pub invariant-loop : goal.invariant-loop
invariant-loop l =
    (length l.ram ≡ length l.fn.ram)
    × (length l.reply ≡ length l.fn.reply)
    × (length l.buffer ≡ length l.fn.buffer)
    × (length l.out ≡ length l.fn.out)
