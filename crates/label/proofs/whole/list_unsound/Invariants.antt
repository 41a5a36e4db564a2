-- The unsound cells below `number` are listed.
use Rattle.std.proofs.Common.{◌≤◌, replicate}
use Rattle.label_spans.specs.Span.{read_in_vain}
use Rattle.label.proofs.Turns.{Run, itself}
use Rattle.label.proofs.whole.list_unsound.Given as goal

abbrev pub invariant-loop-number : goal.invariant-loop-number
invariant-loop-number l = (l.count ≤ l.number) × Run itself (read_in_vain l.s l.spans) l.number 0 (replicate 90 0) l.unsound l.count
