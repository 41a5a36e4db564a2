-- What can be asked of a write: a write of a message has a place, a word and a part, which says what it is.
use Rattle.std.specs.Prelude.{ℕ}
use Rattle.memory.specs.Writes.{Write}
use Rattle.writes.specs.declared.part.Part.{Part}

-- all three
pub record Planned : Type 0 where
  pub at : ℕ
  pub word : ℕ
  pub part : Part

abbrev pub planned : ℕ → ℕ → Part → Planned
planned at word part = record { at = at; word = word; part = part }

-- what RAM takes of it: the place and the word
abbrev pub as_write : ℕ → ℕ → Part → Write
as_write at word part = record { at = at; word = word }
