-- The count stays within the buffer, which keeps its length.
use Rattle.std.proofs.Common.{length, ◌-◌, ◌≤◌, ◌≡◌}
use Rattle.streams.proofs.input.fill.Given as goal

abbrev pub invariant-loop-got : goal.invariant-loop-got
invariant-loop-got l = (length l.buffer ≡ length l.initial.buffer) × (l.got ≤ length l.buffer)

abbrev pub decreases-loop-got : goal.decreases-loop-got
decreases-loop-got l = length l.initial.buffer - l.got
