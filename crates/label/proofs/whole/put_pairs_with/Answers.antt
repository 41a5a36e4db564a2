-- `put_pairs_with` meets its contract.
use Rattle.std.proofs.Common.{arith, refl, ◌∙◌}
use Rattle.label_spans.specs.Span.{places_meet}
use Rattle.label.proofs.Spans.{turn_above, spanless_none}
use Rattle.label.proofs.Turns.{above_none, run_starts, run_put, run_passed, run_small, row_done, row_skipped}
use Rattle.label.proofs.whole.put_pairs_with.Goals as goal
use Rattle.label.proofs.whole.put_pairs_with.Goals.{then-spans_meet, else-spans_meet}

pub loop-higher-init : goal.loop-higher-init
loop-higher-init c = run_starts _ _ _ _ _ _ _ (above_none (places_meet _) _) refl refl

pub overflow_add-at : goal.overflow_add-at
overflow_add-at c =
    let small = run_small _ _ c.loop-higher.higher _ _ _ _ c.loop-higher.invariant (omega arith) in
    omega arith

pub returns-then-own-eq0-clause-words : goal.returns-then-own-eq0-clause-words
returns-then-own-eq0-clause-words c = (row_skipped _ _ _ _ _ (spanless_none _ _ c.if-own-eq0.true)).0

pub returns-then-own-eq0-clause-next : goal.returns-then-own-eq0-clause-next
returns-then-own-eq0-clause-next c = (row_skipped _ _ _ _ c.args.pairs.now (spanless_none _ _ c.if-own-eq0.true)).1

pub loop-higher-preserved : goal.loop-higher-preserved
loop-higher-preserved c =
    let run = c.loop-higher.invariant in
    let met = turn_above c.args.spans.now c.args.lower c.loop-higher.higher _ (omega arith) c.spans_meet.ensures in
    elim c.if-spans_meet.branch [
      | then-spans_meet w ↦ run_put _ _ _ _ _ _ _ run _ _ _ refl (w.pairs-is ∙ w.put.ensures) w.at-is (met ∙ w.if-spans_meet.true)
      | else-spans_meet w ↦ run_passed _ _ _ _ _ _ _ run _ _ w.pairs-is w.at-is (met ∙ w.if-spans_meet.false)
    ]

pub returns-clause-words : goal.returns-clause-words
returns-clause-words c = (row_done _ _ _ _ _ _ _ c.loop-higher.invariant _ (omega arith)).0

pub returns-clause-next : goal.returns-clause-next
returns-clause-next c = (row_done _ _ _ _ _ _ _ c.loop-higher.invariant c.args.end (omega arith)).1
