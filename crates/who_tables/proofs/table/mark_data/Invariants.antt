-- `mark_data` meets its contract. The loop's invariant: `k` words are marked.
use Prim.Native.Nat.{◌+◌}
use mathlib.Core.Path.{◌≡◌}
use Rattle.memory.specs.Writes.{apply_writes, writes_to}
use Rattle.windows.specs.Window.{place_of}
use Rattle.writes.specs.declared.part.Part.TheVariants.{Data}
use Rattle.who_tables.specs.Mark.{mark_of}
use Rattle.who_tables.proofs.table.mark_data.Given as goal

abbrev pub invariant-loop-k : goal.invariant-loop-k
invariant-loop-k l =
    (l.numbers ≡ apply_writes (writes_to (place_of l.d.window) (λ i. l.number) l.k) l.initial.numbers)
    × (l.marks ≡ apply_writes (writes_to (place_of l.d.window) (λ i. mark_of l.d.cell (Data (i + 1))) l.k) l.initial.marks)
