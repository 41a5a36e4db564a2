-- The labels on shared pages (document 02, request 1) as plain words.
use Rattle.std.specs.Prelude.{ℕ, List, [], ◌∷◌}
use Rattle.words.specs.Bits.{bit_of}
use Rattle.label.specs.declared.one.Sharer.{Sharer}
use Rattle.label.specs.declared.one.CellLabel.{CellLabel}
use Rattle.label.specs.declared.whole.AreaLabel.{AreaLabel}

-- two words for each cell: its number, and 1 where it is "able to write", 0 where it is able "only to send"
unfoldable pub sharer_words : List Sharer → List ℕ
sharer_words [] = []
sharer_words (x ∷ xs) = x.cell ∷ bit_of x.writes ∷ sharer_words xs

-- of one cell: how many cells are listed, then their words; those behind the last are 0
abbrev pub listing_length : ℕ
listing_length = 179

unfoldable pub listing_words : CellLabel → List ℕ
listing_words l = l.count ∷ sharer_words l.cells

-- of the whole area: how many cells are unsound, and how many pairs there are in all; and the unsound cells
abbrev pub counts_length : ℕ
counts_length = 2

abbrev pub unsound_length : ℕ
unsound_length = 90

unfoldable pub count_words : AreaLabel → List ℕ
count_words l = l.unsound_count ∷ l.pairs ∷ []
