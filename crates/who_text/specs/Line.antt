-- The answer to "Who put this word here" as a line. Text is ASCII.
use Rattle.std.specs.Prelude.{ℕ, ◌%◌, cond, List, [], ◌∷◌, ◌++◌, eqb}
use Rattle.memory.specs.Kind.{kind_numbered}
use Rattle.text.specs.Text.{hex_text, decimal_text, newline}
use Rattle.text.specs.Line.{column}
use Rattle.wording.specs.Wording.{kind_name, comma, refused_line}
use Rattle.writes.specs.declared.part.Part.{Part}
use Rattle.writes.specs.declared.part.Part.TheVariants.{Data, Pointer, Stack, StackPointer}
use Rattle.who_origin.specs.declared.origin.Origin.{Origin}
use Rattle.who_origin.specs.declared.origin.Who.{Who}
use Rattle.who_origin.specs.declared.origin.Who.TheVariants.{Refused, AsInImage, Written}

-- ` subaddress`
abbrev pub subaddress_name : List ℕ
subaddress_name = 32 ∷ 115 ∷ 117 ∷ 98 ∷ 97 ∷ 100 ∷ 100 ∷ 114 ∷ 101 ∷ 115 ∷ 115 ∷ []

-- "A cell is a kind and a subaddress": `receive subaddress 3`
unfoldable pub cell_name : ℕ → List ℕ
cell_name cell = kind_name (kind_numbered cell) ++ subaddress_name ++ column (decimal_text (cell % 32))

-- `block status`, `time tag`, `pointer`, `command`
abbrev pub status_name : List ℕ
status_name = 98 ∷ 108 ∷ 111 ∷ 99 ∷ 107 ∷ 32 ∷ 115 ∷ 116 ∷ 97 ∷ 116 ∷ 117 ∷ 115 ∷ []

abbrev pub tag_name : List ℕ
tag_name = 116 ∷ 105 ∷ 109 ∷ 101 ∷ 32 ∷ 116 ∷ 97 ∷ 103 ∷ []

abbrev pub pointer_name : List ℕ
pointer_name = 112 ∷ 111 ∷ 105 ∷ 110 ∷ 116 ∷ 101 ∷ 114 ∷ []

abbrev pub command_name : List ℕ
command_name = 99 ∷ 111 ∷ 109 ∷ 109 ∷ 97 ∷ 110 ∷ 100 ∷ []

-- a word of the descriptor, by its place: "block status, time tag, lookup pointer before the message, command"
unfoldable pub stack_name : ℕ → List ℕ
stack_name place =
    cond (eqb place 1) status_name (cond (eqb place 2) tag_name (cond (eqb place 3) pointer_name command_name))

-- `, word`, `pointer of `, `stack, `, `stack pointer`
abbrev pub word_name : List ℕ
word_name = 44 ∷ 32 ∷ 119 ∷ 111 ∷ 114 ∷ 100 ∷ []

abbrev pub of_name : List ℕ
of_name = 112 ∷ 111 ∷ 105 ∷ 110 ∷ 116 ∷ 101 ∷ 114 ∷ 32 ∷ 111 ∷ 102 ∷ 32 ∷ []

abbrev pub stack_part : List ℕ
stack_part = 115 ∷ 116 ∷ 97 ∷ 99 ∷ 107 ∷ 44 ∷ 32 ∷ []

abbrev pub stack_pointer_name : List ℕ
stack_pointer_name = 115 ∷ 116 ∷ 97 ∷ 99 ∷ 107 ∷ 32 ∷ 112 ∷ 111 ∷ 105 ∷ 110 ∷ 116 ∷ 101 ∷ 114 ∷ []

-- "with its cell and its place in the message": `receive subaddress 3, word 4`
unfoldable pub data_text : ℕ → ℕ → List ℕ
data_text cell place = cell_name cell ++ word_name ++ column (decimal_text place)

-- whose lookup pointer: `pointer of receive subaddress 3`
unfoldable pub pointer_text : ℕ → List ℕ
pointer_text cell = of_name ++ cell_name cell

-- which of the four: `stack, block status`
unfoldable pub stack_text : ℕ → List ℕ
stack_text place = stack_part ++ stack_name place

-- "its cell and its place in the message, or that it was a stack, pointer .. write"
abbrev pub part_text : ℕ → Part → List ℕ
part_text cell (Data place) = data_text cell place
part_text cell Pointer = pointer_text cell
part_text cell (Stack place) = stack_text place
part_text cell StackPointer = stack_pointer_name

-- `record`
abbrev pub record_name : List ℕ
record_name = 114 ∷ 101 ∷ 99 ∷ 111 ∷ 114 ∷ 100 ∷ []

-- `record 3, receive subaddress 3, word 4`
unfoldable pub origin_line : Origin → List ℕ
origin_line o = record_name ++ column (decimal_text o.number) ++ comma ++ part_text o.cell o.part ++ newline

-- "as in the image"
abbrev pub image_text : List ℕ
image_text = 97 ∷ 115 ∷ 32 ∷ 105 ∷ 110 ∷ 32 ∷ 116 ∷ 104 ∷ 101 ∷ 32 ∷ 105 ∷ 109 ∷ 97 ∷ 103 ∷ 101 ∷ 10 ∷ []

-- "answer either "as in the image" or the number of the last record", or the number that refuses
abbrev pub answer_line : Who → List ℕ
answer_line (Refused number) = refused_line number
answer_line AsInImage = image_text
answer_line (Written o) = origin_line o

-- the address before it: `0401 record 3, receive subaddress 3, word 4`
unfoldable pub who_line : ℕ → Who → List ℕ
who_line address who = hex_text address ++ column [] ++ answer_line who
