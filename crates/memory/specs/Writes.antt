-- Words put into RAM one after the other, as an ordered list of writes.
use Rattle.std.specs.Prelude.{ℕ, List, [], ◌∷◌, set}
use Rattle.memory.specs.Rows.{row}

-- a word put at a place
pub record Write : Type 0 where
  pub at : ℕ
  pub word : ℕ

-- the words of a list put one after the other
unfoldable pub apply_writes : List Write → List ℕ → List ℕ
apply_writes [] ram = ram
apply_writes (x ∷ xs) ram = apply_writes xs (set ram x.at x.word)

-- n writes: word k at place k, for k from 0
abbrev pub writes_to : (ℕ → ℕ) → (ℕ → ℕ) → ℕ → List Write
writes_to place word n = row {A = Write} (λ k. record { at = place k; word = word k }) n
