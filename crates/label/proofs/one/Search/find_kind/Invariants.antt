-- Those of the kind's cells below `sub` that share a word are found.
use Rattle.std.proofs.Common.{◌<◌}
use Rattle.memory.specs.Kind.{cell_number}
use Rattle.label.specs.Search.{shares_at}
use Rattle.label.proofs.Turns.{Run}
use Rattle.label.proofs.one.Search.find_kind.Given as goal

abbrev pub invariant-loop-sub : goal.invariant-loop-sub
invariant-loop-sub l =
    let q = l.self in
    (l.count < l.sub) × Run (cell_number l.kind) (shares_at q.ram.now q.s q.stack q.own q.cell l.kind) l.sub 0 l.initial.numbers l.numbers l.count
