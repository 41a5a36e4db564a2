-- A mark tells its kind, place and cell back; those of a plan are marks, and make entries.
use Prim.Native.Nat.{ℕ, ◌+◌, ◌/◌, ◌%◌, ◌≤◌, ◌<◌}
use native.Mathlib.Omega.{arith}
use mathlib.Core.Path.{◌≡◌, refl}
use mathlib.Core.Bool.{true}
use borrow.Author.Tests.{ne_eqb, le-leb, lt-ltb}
use Rattle.words.specs.declared.settings.Settings.{Settings}
use Rattle.records.specs.declared.value.Record.{Record}
use Rattle.memory.specs.Rows.{Each}
use Rattle.plan.specs.declared.plan.Plan.{Plan}
use Rattle.writes.specs.declared.part.Part.{Part}
use Rattle.writes.specs.declared.part.Part.TheVariants.{Data, Pointer, Stack, StackPointer}
use Rattle.writes.specs.Asked.{Planned, planned}
use Rattle.writes.specs.Writes.{list_of}
use Rattle.writes.proofs.Listed.{each_listed}
use Rattle.who_origin.specs.Origin.{written}
use Rattle.who.specs.Values.{part_kind, part_place}
use Rattle.who_tables.specs.Mark.{mark_of, part_marked, entry_of, place_fits, is_mark, is_entry}

kind_few : (part : Part) → part_kind part ≤ 4
kind_few (Data place) = omega arith
kind_few Pointer = omega arith
kind_few (Stack place) = omega arith
kind_few StackPointer = omega arith

mark_kind : (cell : ℕ) (part : Part) → mark_of cell part / 8192 ≡ part_kind part
unfolding mark_of
mark_kind cell part = omega (arith, kind_few part)

mark_place : (cell : ℕ) (part : Part) → part_place part < 64 → mark_of cell part / 128 % 64 ≡ part_place part
unfolding mark_of
mark_place cell part h = omega arith

mark_cell : (cell : ℕ) (part : Part) → cell < 128 → mark_of cell part % 128 ≡ cell
unfolding mark_of
mark_cell cell part h = omega arith

mark_part : (cell : ℕ) (part : Part) → part_place part < 64 → part_marked (mark_of cell part) ≡ part
unfolding part_marked
mark_part cell (Data place) h = rw (mark_kind, mark_place cell (Data place) h)
mark_part cell Pointer h = rw mark_kind
mark_part cell (Stack place) h = rw (mark_kind, mark_place cell (Stack place) h)
mark_part cell StackPointer h = rw mark_kind

-- a number that is not 0, and a mark, tell what was written
pub entry_written :
    (number cell : ℕ) (part : Part) →
    (number ≡ 0 → ⊥) →
    cell < 128 →
    part_place part < 64 →
    entry_of number (mark_of cell part) ≡ written number cell part
unfolding entry_of
entry_written number cell part n c h = rw (ne_eqb number 0 n, mark_cell cell part c, mark_part cell part h)

-- and they are an entry
pub entry_good :
    (number cell : ℕ) (part : Part) →
    (number ≡ 0 → ⊥) →
    cell < 96 →
    part_place part < 64 →
    place_fits (part_kind part) (part_place part) ≡ true →
    is_entry number (mark_of cell part) ≡ true
unfolding is_entry is_mark
entry_good number cell part n c h f =
    rw (
      ne_eqb number 0 n,
      mark_cell cell part (omega arith),
      mark_kind cell part,
      mark_place cell part h,
      lt-ltb cell 96 c,
    )
    f

-- the parts of a plan's writes have the place that their kind has, and it is small
abbrev pub Fits : Planned → Type 0
Fits w = (part_place w.part < 64) × (place_fits (part_kind w.part) (part_place w.part) ≡ true)

pub parts_fit : (s : Settings) (p : Plan) (v : Record) → p.deed.stored ≤ 32 → Each Fits (list_of planned s p v)
unfolding place_fits
parts_fit s p v h =
    each_listed Fits planned s p v
    (λ k l. (omega arith, rw (le-leb 1 (k + 1) (omega arith), le-leb (k + 1) 32 (omega arith))))
    (omega arith, refl)
    (λ k l. (omega arith, rw (le-leb 1 (k + 1) (omega arith), le-leb (k + 1) 4 (omega arith))))
    (omega arith, refl)
