-- `list_area` meets its contract: the table of spans gives the pairs and the unsound cells.
use Rattle.std.proofs.Common.{arith, refl, replicate}
use Rattle.label.proofs.Spans.{Table, table_pairs, table_unsound}
use Rattle.label.proofs.Turns.{pairs_fit}
use Rattle.label.proofs.whole.list_area.Goals as goal

pub overflow_cast-count : goal.overflow_cast-count
overflow_cast-count c =
    let small = pairs_fit _ _ _ c.read_end.ensures.1 c.put_pairs-count.ensures.count in
    omega arith

pub returns : goal.returns
returns c =
    let read = c.read_spans.ensures in
    let table : Table c.args.ram.now c.args.s c.read_spans.new.spans =
    record { places = replicate 96 c.default-spans.result; long = refl; starts = read.starts; ends = read.ends } in
    let pairs = table_pairs _ _ _ _ table c.read_end.ensures.0 in
    let unsound = table_unsound _ _ _ table in
    let put = c.put_pairs-count.ensures in
    record { label = rw (← pairs, ← unsound, ← put.count) c.list_unsound.ensures; pairs = rw (← pairs) put.words }
