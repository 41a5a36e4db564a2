-- `walk_records` meets its contract. The loop's invariant: the walk stands after the records that the iterator gave, and
-- the iterator has the rest.
use Rattle.std.proofs.Common.{length}
use Rattle.std.specs.Slice.Iter.{chunks_exact_size, chunks_exact_rest}
use Rattle.trace.specs.Walk.{walk_to, walk_start}
use Rattle.trace.proofs.Walks.{Stands}
use Rattle.trace.proofs.Left.{RecordsLeft}
use Rattle.trace.proofs.walk.walk_records.Given as goal

abbrev pub invariant-loop-bytes : goal.invariant-loop-bytes
invariant-loop-bytes l =
    record {
      left : RecordsLeft l.trace (length l.yielded) (chunks_exact_rest l.bytes-iterator) (chunks_exact_size l.bytes-iterator);
      stands :
          Stands (walk_to l.s l.trace (walk_start l.initial.ram l.initial.reply l.initial.w.remembered l.initial.w.number) (length l.yielded))
          l.initial.out l.ram l.reply l.out l.w;
    }
