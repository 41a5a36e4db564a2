-- `mark_stack` meets its contract. The loop's invariant: `k` of the four words are marked.
use Prim.Native.Nat.{◌+◌}
use mathlib.Core.Path.{◌≡◌}
use Rattle.memory.specs.Writes.{apply_writes, writes_to}
use Rattle.writes.specs.declared.part.Part.TheVariants.{Stack}
use Rattle.who_tables.specs.Mark.{mark_of}
use Rattle.who_tables.proofs.table.mark_stack.Given as goal

abbrev pub invariant-loop-k : goal.invariant-loop-k
invariant-loop-k l =
    (l.numbers ≡ apply_writes (writes_to (λ i. l.e.pointer + i) (λ i. l.number) l.k) l.initial.numbers)
    × (l.marks ≡ apply_writes (writes_to (λ i. l.e.pointer + i) (λ i. mark_of l.cell (Stack (i + 1))) l.k) l.initial.marks)
