-- The pairs whose lower number is below `lower` stand in the slice.
use Rattle.label_spans.specs.Span.{places_meet}
use Rattle.label.proofs.Turns.{Rows}
use Rattle.label.proofs.whole.put_pairs.Given as goal

abbrev pub invariant-loop-lower : goal.invariant-loop-lower
invariant-loop-lower l = Rows (places_meet l.spans) l.end l.lower l.initial.pairs l.pairs l.used
