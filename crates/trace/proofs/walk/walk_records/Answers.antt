-- `walk_records` meets its contract. The loop's invariant: the walk stands after the records that the iterator gave.
use Rattle.std.proofs.Common.{arith}
use Rattle.std.proofs.lemmas.List.{length_push}
use Rattle.trace.specs.Walk.{walk_all}
use Rattle.trace.proofs.Left.{all_left, next_record, fewer_left, none_left}
use Rattle.trace.proofs.Walks.{stands_none, stands_more, stands_text, stands_back}
use Rattle.trace.proofs.walk.walk_records.Goals as goal

pub loop-bytes-init : goal.loop-bytes-init
loop-bytes-init c =
    let chunks = c.chunks_exact-bytes-items.ensures in
    record {
      left = rw (c.into_iter-bytes-iterator.ensures.into_iter_gives, chunks.rest, chunks.size) (all_left c.args.trace.now);
      stands = stands_none _ _ _ _ _ _ _ (omega arith);
    }

pub loop-bytes-preserved : goal.loop-bytes-preserved
loop-bytes-preserved c =
    let l = c.loop-bytes.invariant in
    let step = c.in-Some.ensures.steps in
    let n = length_push c.loop-bytes.yielded c.in-Some.bytes in
    record {
      left = rw n (fewer_left l.left _ _ _ step.1.0 step.1.1 step.0);
      stands = rw n (stands_more _ _ _ _ l.stands c.walk_one-w.ensures (next_record l.left _ _ step.1.0 step.1.1));
    }

pub returns : goal.returns
unfolding walk_all
returns c =
    let l = c.loop-bytes.invariant in
    let t = rw (none_left l.left c.in-None.ensures.steps.1.0) at l.stands in
    let text = stands_text _ _ _ _ (omega arith) t in
    record {
      back = stands_back t text;
      ram = λ i. (t.state i).ram;
      reply = λ i. (t.state i).reply;
      out = text.bytes;
    }
