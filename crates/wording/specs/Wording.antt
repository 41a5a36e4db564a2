-- The words of the label: a cell by its kind and subaddress, its mark, and the lines of two cells, of the unsound ones
-- and of a refusal. Text is ASCII.
use Rattle.std.specs.Prelude.{ℕ, ◌%◌, Bool, true, false, cond, eqb}
use mathlib.Core.List.{List, [], ◌∷◌, ◌++◌, flat_map}
use Rattle.words.specs.Number.{ram_length, bad_settings, unsound_stack, address_beyond}
use Rattle.memory.specs.declared.kind.Kind.{Kind}
use Rattle.memory.specs.declared.kind.Kind.TheVariants.{Receive, Transmit, Broadcast}
use Rattle.memory.specs.Kind.{kind_numbered}
use Rattle.text.specs.Text.{decimal_text, newline}
use Rattle.text.specs.Line.{column}
use Rattle.label.specs.declared.one.Sharer.{Sharer}

-- `receive`, `transmit`, `broadcast`
abbrev pub kind_name : Kind → List ℕ
kind_name Receive = 114 ∷ 101 ∷ 99 ∷ 101 ∷ 105 ∷ 118 ∷ 101 ∷ []
kind_name Transmit = 116 ∷ 114 ∷ 97 ∷ 110 ∷ 115 ∷ 109 ∷ 105 ∷ 116 ∷ []
kind_name Broadcast = 98 ∷ 114 ∷ 111 ∷ 97 ∷ 100 ∷ 99 ∷ 97 ∷ 115 ∷ 116 ∷ []

-- "A cell is a kind and a subaddress": `receive 19`
unfoldable pub cell_text : ℕ → List ℕ
cell_text number = kind_name (kind_numbered number) ++ column (decimal_text (number % 32))

-- "able to write or only to send": ` (writes)` or ` (sends)`
abbrev pub mark_text : Bool → List ℕ
mark_text true = 32 ∷ 40 ∷ 119 ∷ 114 ∷ 105 ∷ 116 ∷ 101 ∷ 115 ∷ 41 ∷ []
mark_text false = 32 ∷ 40 ∷ 115 ∷ 101 ∷ 110 ∷ 100 ∷ 115 ∷ 41 ∷ []

-- a cell with its mark: `receive 19 (writes)`
unfoldable pub marked_text : Sharer → List ℕ
marked_text sharer = cell_text sharer.cell ++ mark_text sharer.writes

-- ` meets `
abbrev pub meets_name : List ℕ
meets_name = 32 ∷ 109 ∷ 101 ∷ 101 ∷ 116 ∷ 115 ∷ 32 ∷ []

-- a line for two cells whose windows meet: `receive 19 (writes) meets transmit 4 (sends)`
unfoldable pub meet_line : Sharer → Sharer → List ℕ
meet_line cell other = marked_text cell ++ meets_name ++ marked_text other ++ newline

-- `unsound: ` and `, `
abbrev pub unsound_name : List ℕ
unsound_name = 117 ∷ 110 ∷ 115 ∷ 111 ∷ 117 ∷ 110 ∷ 100 ∷ 58 ∷ 32 ∷ []

abbrev pub comma : List ℕ
comma = 44 ∷ 32 ∷ []

-- one cell more in that line
unfoldable pub also_text : ℕ → List ℕ
also_text number = comma ++ cell_text number

-- "Unsound cells are named in a line of their own": `unsound: receive 3, transmit 4`; where there is none, no line
unfoldable pub unsound_line : List ℕ → List ℕ
unsound_line [] = []
unsound_line (first ∷ others) = unsound_name ++ cell_text first ++ flat_map also_text others ++ newline

-- why: `wrong RAM length`, `bad settings`, `stack unsound`, `address beyond the RAM`, `no such sound cell`
abbrev pub ram_reason : List ℕ
ram_reason = 119 ∷ 114 ∷ 111 ∷ 110 ∷ 103 ∷ 32 ∷ 82 ∷ 65 ∷ 77 ∷ 32 ∷ 108 ∷ 101 ∷ 110 ∷ 103 ∷ 116 ∷ 104 ∷ []

abbrev pub settings_reason : List ℕ
settings_reason = 98 ∷ 97 ∷ 100 ∷ 32 ∷ 115 ∷ 101 ∷ 116 ∷ 116 ∷ 105 ∷ 110 ∷ 103 ∷ 115 ∷ []

abbrev pub stack_reason : List ℕ
stack_reason = 115 ∷ 116 ∷ 97 ∷ 99 ∷ 107 ∷ 32 ∷ 117 ∷ 110 ∷ 115 ∷ 111 ∷ 117 ∷ 110 ∷ 100 ∷ []

abbrev pub address_reason : List ℕ
address_reason = 97 ∷ 100 ∷ 100 ∷ 114 ∷ 101 ∷ 115 ∷ 115 ∷ 32 ∷ 98 ∷ 101 ∷ 121 ∷ 111 ∷ 110 ∷ 100 ∷ 32 ∷ 116 ∷ 104 ∷ 101 ∷ 32 ∷ 82 ∷ 65 ∷ 77 ∷ []

abbrev pub cell_reason : List ℕ
cell_reason = 110 ∷ 111 ∷ 32 ∷ 115 ∷ 117 ∷ 99 ∷ 104 ∷ 32 ∷ 115 ∷ 111 ∷ 117 ∷ 110 ∷ 100 ∷ 32 ∷ 99 ∷ 101 ∷ 108 ∷ 108 ∷ []

unfoldable pub reason_text : ℕ → List ℕ
reason_text number =
    cond (eqb number ram_length) ram_reason
    (cond (eqb number bad_settings) settings_reason
    (cond (eqb number unsound_stack) stack_reason (cond (eqb number address_beyond) address_reason cell_reason)))

-- `refused` and `: `
abbrev pub refused_name : List ℕ
refused_name = 114 ∷ 101 ∷ 102 ∷ 117 ∷ 115 ∷ 101 ∷ 100 ∷ []

abbrev pub colon : List ℕ
colon = 58 ∷ 32 ∷ []

-- `refused 8: stack unsound`
unfoldable pub refused_line : ℕ → List ℕ
refused_line number = refused_name ++ column (decimal_text number) ++ colon ++ reason_text number ++ newline
