-- What RAM says of a cell: its lookup word and its control word, and no other, describe it.
use Prim.Native.Nat.{ℕ}
use mathlib.Core.Path.{◌≡◌}
use mathlib.Core.List.{List}
use lib.ListN.{get_or}
use Rattle.words.specs.declared.settings.Area.{Area}
use Rattle.memory.specs.declared.kind.Kind.{Kind}
use Rattle.memory.specs.Map.{lookup_place, control_place}
use Rattle.memory.specs.Kind.{cell_number}
use Rattle.cells.specs.Cell.{lookup_at, cell_from, cell_at}

pub cell_words_lem :
    (m n : List ℕ) (area : Area) (kind : Kind) (sub : ℕ) →
    get_or m (lookup_place area (cell_number kind sub)) 0 ≡ get_or n (lookup_place area (cell_number kind sub)) 0 →
    get_or m (control_place area sub) 0 ≡ get_or n (control_place area sub) 0 →
    cell_at m area kind sub ≡ cell_at n area kind sub
unfolding lookup_at cell_from cell_at
cell_words_lem m n area kind sub e g = rw (e, g)
