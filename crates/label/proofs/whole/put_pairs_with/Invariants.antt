-- The pairs with cells below `higher` stand in the slice.
use Rattle.label_spans.specs.Span.{places_meet}
use Rattle.label.proofs.Turns.{Row}
use Rattle.label.proofs.whole.put_pairs_with.Given as goal

abbrev pub invariant-loop-higher : goal.invariant-loop-higher
invariant-loop-higher l = Row (places_meet l.spans) l.lower l.higher l.used l.initial.pairs l.pairs l.at
