use Rattle.std.proofs.Common.{arith, rules}
use Rattle.area.proofs.Lowest.{found_here}
use Rattle.area.proofs.area.lowest_of_kind.Goals as goal

pub returns-then-not-sound_cell : goal.returns-then-not-sound_cell
returns-then-not-sound_cell c =
    let first =
    found_here _ 31 c.loop-sub.sub c.sound_cell.result (omega arith) (omega arith) c.loop-sub.invariant
    c.if-not-sound_cell.true (search rules) in
    (first.0, rw (c.cell_number.ensures, ← first.1))
