-- The stack block after a list of descriptors. "The stack holds the last descriptors that fit".
use Rattle.std.specs.Prelude.{ℕ, ◌+◌, ◌*◌, ◌-◌, ◌/◌, ◌%◌, cond, List, [], length, get_or, ltb}
use Rattle.windows.specs.declared.window.Window.{Window}

-- place j of the block belongs to the entry that stands this many entries on from the stack pointer, wrapping
unfoldable pub entries_on : Window → ℕ → ℕ
entries_on block j = (j + (block.size - block.offset)) % block.size / 4

-- n descriptors are put one after the other from the stack pointer on, wrapping: the number of the last one that stands
-- `on` entries on from the first, where the block has room for so many
unfoldable pub last_of : ℕ → ℕ → ℕ → ℕ
last_of n on room = on + (n - 1 - on) / room * room

-- the word at place j of the block: a word of the last descriptor that was put there, or, where none was, the word as
-- it was
unfoldable pub stack_word : List ℕ → Window → List (List ℕ) → ℕ → ℕ
stack_word before block ds j =
    cond (ltb (entries_on block j) (length ds))
    (get_or (get_or ds (last_of (length ds) (entries_on block j) (block.size / 4)) []) (j % 4) 0)
    (get_or before (block.start + j) 0)
