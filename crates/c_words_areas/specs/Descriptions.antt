-- What a cell and the stack are like, as plain words.
use Rattle.std.specs.Prelude.{ℕ, List, [], ◌∷◌}
use Rattle.words.specs.Bits.{bit_of}
use Rattle.soundness.specs.declared.cell.CellDescription.{CellDescription}
use Rattle.soundness.specs.declared.stack.StackDescription.{StackDescription}

-- eight words: kind, subaddress, 1 where the whole-area check reads the cell or 0, scheme; then where it lies, and its
-- faults
abbrev pub cell_length : ℕ
cell_length = 8

unfoldable pub cell_words : CellDescription → List ℕ
cell_words d =
    d.kind
    ∷ d.subaddress
    ∷ bit_of d.read
    ∷ d.scheme
    ∷ d.pointer
    ∷ d.start
    ∷ d.size
    ∷ d.faults
    ∷ []

-- four words: where it lies, and its faults
abbrev pub stack_length : ℕ
stack_length = 4

unfoldable pub stack_words : StackDescription → List ℕ
stack_words d = d.pointer ∷ d.start ∷ d.size ∷ d.faults ∷ []
