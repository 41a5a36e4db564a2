-- A write's kind, place and cell in one word, and back again; and which words are such marks.
use Rattle.std.specs.Prelude.{ℕ, ◌+◌, ◌*◌, ◌/◌, ◌%◌, Bool, cond, ◌&&◌, ◌||◌, ltb, leb, eqb}
use Rattle.writes.specs.declared.part.Part.{Part}
use Rattle.writes.specs.declared.part.Part.TheVariants.{Data, Pointer, Stack, StackPointer}
use Rattle.who_origin.specs.declared.origin.Who.{Who}
use Rattle.who_origin.specs.declared.origin.Who.TheVariants.{AsInImage}
use Rattle.who_origin.specs.Origin.{written}
use Rattle.who.specs.Values.{part_kind, part_place}

-- a write's kind, place and cell in one word: bits 15-13, 12-7, 6-0
unfoldable pub mark_of : ℕ → Part → ℕ
mark_of cell part = 8192 * (part_kind part % 8) + 128 * (part_place part % 64) + cell % 128

unfoldable pub part_marked : ℕ → Part
part_marked mark =
    cond (eqb (mark / 8192) 1) (Data (mark / 128 % 64))
    (cond (eqb (mark / 8192) 2) Pointer (cond (eqb (mark / 8192) 3) (Stack (mark / 128 % 64)) StackPointer))

-- what a number and a mark say: number 0 is no record's, so "as in the image"
unfoldable pub entry_of : ℕ → ℕ → Who
entry_of number mark = cond (eqb number 0) AsInImage (written number (mark % 128) (part_marked mark))

-- the place that a write of each kind has: a data word's is 1 to 32, a stack word's 1 to 4, a pointer's and the stack
-- pointer's 0. There is no other kind.
unfoldable pub place_fits : ℕ → ℕ → Bool
place_fits kind place =
    cond (eqb kind 1) (leb 1 place && leb place 32)
    (cond (eqb kind 3) (leb 1 place && leb place 4) ((eqb kind 2 || eqb kind 4) && eqb place 0))

-- a mark is that of a write, by a message of one of the 96 cells
unfoldable pub is_mark : ℕ → Bool
is_mark mark = ltb (mark % 128) 96 && place_fits (mark / 8192) (mark / 128 % 64)

-- what tables hold of an address: nothing at all, or the number of a record with the mark of a write
unfoldable pub is_entry : ℕ → ℕ → Bool
is_entry number mark = cond (eqb number 0) (eqb mark 0) (is_mark mark)
