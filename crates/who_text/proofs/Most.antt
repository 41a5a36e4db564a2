-- How long the answer's line is.
use Prim.Native.Nat.{ℕ, ◌%◌, ◌≤◌}
use native.Mathlib.Omega.{arith}
use lib.ListN.{length, length-append}
use lib.Dec.{eqb}
use Rattle.memory.specs.Kind.{kind_numbered}
use Rattle.text.proofs.Runs.{length_hex}
use Rattle.text.proofs.Numerals.{decimal_most}
use Rattle.wording.proofs.Lengths.{kind_most, either_most, refused_most}
use Rattle.writes.specs.declared.part.Part.{Part}
use Rattle.writes.specs.declared.part.Part.TheVariants.{Data, Pointer, Stack, StackPointer}
use Rattle.who_origin.specs.declared.origin.Who.{Who}
use Rattle.who_origin.specs.declared.origin.Who.TheVariants.{Refused, AsInImage, Written}
use Rattle.who_text.specs.Line.{cell_name, stack_name, data_text, pointer_text, stack_text, part_text, origin_line, answer_line, who_line}

cell_most : (cell : ℕ) → length (cell_name cell) ≤ 41
unfolding cell_name
cell_most cell = simp length-append (omega (arith, kind_most (kind_numbered cell), decimal_most (cell % 32)))

stack_most : (place : ℕ) → length (stack_name place) ≤ 12
unfolding stack_name
stack_most place =
    either_most (eqb place 1) _ _ 12 (omega arith)
    (either_most (eqb place 2) _ _ 12 (omega arith) (either_most (eqb place 3) _ _ 12 (omega arith) (omega arith)))

part_most : (cell : ℕ) (part : Part) → length (part_text cell part) ≤ 68
unfolding data_text pointer_text stack_text
part_most cell (Data place) = simp length-append (omega (arith, cell_most cell, decimal_most place))
part_most cell Pointer = simp length-append (omega (arith, cell_most cell))
part_most cell (Stack place) = simp length-append (omega (arith, stack_most place))
part_most cell StackPointer = omega arith

answer_most : (who : Who) → length (answer_line who) ≤ 98
unfolding origin_line
answer_most (Refused number) = omega (arith, refused_most number)
answer_most AsInImage = omega arith
answer_most (Written o) = simp length-append (omega (arith, decimal_most o.number, part_most o.cell o.part))

-- a buffer of so many bytes has room for any answer
pub line_room : (address : ℕ) (who : Who) → length (who_line address who) ≤ 103
unfolding who_line
line_room address who = simp (length-append, length_hex) (omega (arith, answer_most who))
