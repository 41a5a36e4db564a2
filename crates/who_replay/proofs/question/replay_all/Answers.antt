-- `replay_all` meets its contract. The loop's invariant: the records that the iterator gave are replayed.
use Rattle.std.proofs.Common.{refl}
use Rattle.std.proofs.lemmas.List.{length_push}
use Rattle.trace.proofs.Left.{all_left, next_record, fewer_left, none_left}
use Rattle.who.specs.Replay.{heard_to, heard_in, replay}
use Rattle.who.proofs.Turns.{replay_more}
use Rattle.who_replay.proofs.question.replay_all.Goals as goal

pub loop-bytes-init : goal.loop-bytes-init
unfolding replay heard_to
loop-bytes-init c =
    let chunks = c.chunks_exact-bytes-items.ensures in
    record {
      left = rw (c.into_iter-bytes-iterator.ensures.into_iter_gives, chunks.rest, chunks.size) (all_left c.args.trace.now);
      stands = refl;
    }

pub loop-bytes-preserved : goal.loop-bytes-preserved
loop-bytes-preserved c =
    let l = c.loop-bytes.invariant in
    let step = c.in-Some.ensures.steps in
    let n = length_push c.loop-bytes.yielded c.in-Some.bytes in
    record {
      left = rw n (fewer_left l.left _ _ _ step.1.0 step.1.1 step.0);
      stands = rw (n, replay_more, ← l.stands, ← next_record l.left _ _ step.1.0 step.1.1) c.replay_record-w.ensures;
    }

pub returns : goal.returns
unfolding heard_in
returns c =
    let l = c.loop-bytes.invariant in rw (none_left l.left c.in-None.ensures.steps.1.0) at l.stands
