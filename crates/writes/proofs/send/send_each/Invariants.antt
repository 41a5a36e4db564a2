-- `send_each` meets its contract. The loop's invariant: the first `k` words are in the reply.
use mathlib.Core.Path.{◌≡◌}
use Rattle.memory.specs.Writes.{apply_writes}
use Rattle.writes.specs.Copies.{sent_writes}
use Rattle.writes.proofs.send.send_each.Given as goal

abbrev pub invariant-loop-k : goal.invariant-loop-k
invariant-loop-k l = l.reply ≡ apply_writes (sent_writes l.ram l.w l.k) l.initial.reply
