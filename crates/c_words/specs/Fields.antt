-- What passes between a caller and the terminal as plain words is a list of fields, one at each place. What is read, as
-- `settings_from`, gives each field by name the word at its place; what is put, as `remembered_words`, gives the fields'
-- words in the order of their places. A field more is a line more in each. `proofs/Order.antt` has the one law for writing
-- such a list, `proofs/Again.antt` the one for reading what was written.
use Rattle.std.specs.Prelude.{ℕ, min, Bool, not, List, get_or, eqb}

-- the word at a place; a word past the end of what is lent counts as 0
abbrev pub word_in : List ℕ → ℕ → ℕ
word_in xs place = get_or xs place 0

-- yes is any word but 0
abbrev pub is_yes : ℕ → Bool
is_yes w = not (eqb w 0)

abbrev pub yes_in : List ℕ → ℕ → Bool
yes_in xs place = is_yes (word_in xs place)

-- where the word says "off": 0 is yes
abbrev pub no_in : List ℕ → ℕ → Bool
no_in xs place = eqb (word_in xs place) 0

-- a byte: a word over 255 counts as 255, which breaks the layout as it does
abbrev pub byte_in : List ℕ → ℕ → ℕ
byte_in xs place = min (word_in xs place) 255
