-- `fill_all` meets its contract. The loop's invariant: the records that the iterator gave are replayed, and it has the rest.
use Rattle.std.proofs.Common.{◌≡◌, length}
use Rattle.std.specs.Slice.Iter.{chunks_exact_size, chunks_exact_rest}
use Rattle.trace.proofs.Left.{RecordsLeft}
use Rattle.who.specs.Replay.{heard_to}
use Rattle.who_tables.specs.Table.{tables_of, fill_all}
use Rattle.who_replay.proofs.fill.fill_all.Given as goal

abbrev pub invariant-loop-bytes : goal.invariant-loop-bytes
invariant-loop-bytes l =
    record {
      left : RecordsLeft l.trace (length l.yielded) (chunks_exact_rest l.bytes-iterator) (chunks_exact_size l.bytes-iterator);
      stands : tables_of l.ram l.numbers l.marks l.w ≡ fill_all l.s (heard_to l.trace (length l.yielded)) (tables_of l.initial.ram l.initial.numbers l.initial.marks l.initial.w);
    }
