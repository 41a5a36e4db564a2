-- `read_spans` meets its contract: kind by kind, the spans of all cells.
use Rattle.std.proofs.Common.{refl, ◌∙◌}
use Rattle.std.proofs.lemmas.List.{length-map}
use Rattle.memory.specs.Kind.{cell_number}
use Rattle.label_spans.specs.Span.{span_of}
use Rattle.label_spans.proofs.ByKind.{length_third, kinds_read, numbers_all}
use Rattle.label_spans.proofs.span.read_spans.Goals as goal

pub returns : goal.returns
unfolding cell_number
returns c =
    let a = c.args in
    let f = span_of a.ram.now a.s c.stack_window-stack.result in
    let long = length_third _ _ _ _ c.told-spans c.read_kind.auto.spans c.read_kind-2.auto.spans c.read_kind-3.auto.spans in
    let read =
    kinds_read _ _ _ _ c.told-spans c.read_kind.auto.spans c.read_kind-2.auto.spans c.read_kind-3.auto.spans f
    c.read_kind.ensures c.read_kind-2.ensures c.read_kind-3.ensures in
    rw (← c.stack_window-stack.ensures)
    (record {
      starts = numbers_all f (λ v. v.start) refl _ long read _ (length-map a.spans.now _ ∙ c.told-spans);
      ends = numbers_all f (λ v. v.end) refl _ long read _ (length-map a.spans.now _ ∙ c.told-spans);
    })
