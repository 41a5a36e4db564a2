-- The spans of the cells below `sub` stand in their places.
use Rattle.std.proofs.Common.{◌≡◌, ℕ, ◌<◌, get_or}
use Rattle.memory.specs.Kind.{cell_number}
use Rattle.label_spans.specs.Span.{no_span, span_of}
use Rattle.label_spans.proofs.span.read_kind.Given as goal

abbrev pub invariant-loop-sub : goal.invariant-loop-sub
invariant-loop-sub l = (k : ℕ) → k < l.sub → get_or l.spans k no_span ≡ span_of l.ram l.s l.stack (cell_number l.kind k)
