-- No subaddress below `sub` is bad.
use Rattle.std.proofs.Common.{◌≡◌, not, length}
use Rattle.cells.specs.Cell.{cell_at, sound_cell}
use Rattle.area.specs.Area.{lowest}
use Rattle.area.proofs.area.lowest_of_kind.Given as goal

abbrev pub invariant-loop-sub : goal.invariant-loop-sub
invariant-loop-sub l = lowest (λ sub. not (sound_cell (length l.ram) l.stack (cell_at l.ram l.s.area l.kind sub))) l.sub ≡ 0
