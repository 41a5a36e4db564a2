-- The number and the values of each case of an answer. "Result: the number, the rest zero".
use Rattle.std.specs.Prelude.{ℕ}
use Rattle.writes.specs.declared.part.Part.{Part}
use Rattle.writes.specs.declared.part.Part.TheVariants.{Data, Pointer, Stack, StackPointer}
use Rattle.who_origin.specs.declared.origin.Who.{Who}
use Rattle.who_origin.specs.declared.origin.Who.TheVariants.{Refused, AsInImage, Written}
use Rattle.who.specs.declared.values.Values.{Values}

-- what a write is: 1 data word, 2 lookup pointer, 3 stack word, 4 stack pointer
abbrev pub part_kind : Part → ℕ
part_kind (Data place) = 1
part_kind Pointer = 2
part_kind (Stack place) = 3
part_kind StackPointer = 4

abbrev pub part_place : Part → ℕ
part_place (Data place) = place
part_place Pointer = 0
part_place (Stack place) = place
part_place StackPointer = 0

-- "0 is done." No record is number 0, so 0 is "as in the image".
unfoldable pub values_of : Who → Values
values_of (Refused number) = record { number = number; last = 0; kind = 0; cell = 0; place = 0 }
values_of AsInImage = record { number = 0; last = 0; kind = 0; cell = 0; place = 0 }
values_of (Written o) =
    record { number = 0; last = o.number; kind = part_kind o.part; cell = o.cell; place = part_place o.part }
