-- `replay_all` meets its contract. The loop's invariant: the records that the iterator gave are replayed, and it has the rest.
use Rattle.std.proofs.Common.{◌≡◌, length}
use Rattle.std.specs.Slice.Iter.{chunks_exact_size, chunks_exact_rest}
use Rattle.trace.proofs.Left.{RecordsLeft}
use Rattle.who.specs.Replay.{heard_to, replay_of, replay}
use Rattle.who_replay.proofs.question.replay_all.Given as goal

abbrev pub invariant-loop-bytes : goal.invariant-loop-bytes
invariant-loop-bytes l =
    record {
      left : RecordsLeft l.trace (length l.yielded) (chunks_exact_rest l.bytes-iterator) (chunks_exact_size l.bytes-iterator);
      stands : replay_of l.ram l.w ≡ replay l.s l.address (heard_to l.trace (length l.yielded)) (replay_of l.initial.ram l.initial.w);
    }
