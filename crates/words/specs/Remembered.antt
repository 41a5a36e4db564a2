-- The remembered state. "The terminal remembers the last command and last status, both 0 at first."
use Rattle.std.specs.Prelude.{ℕ}
use Rattle.words.specs.declared.remembered.Remembered.{Remembered}

-- "both 0 at first"
abbrev pub nothing_remembered : Remembered
nothing_remembered = record { command = 0; status = 0 }

-- "It and the command are remembered after every accepted message": a command and a status, put over what was remembered
-- before
abbrev pub remembering : Remembered → ℕ → ℕ → Remembered
remembering before command status = record { command = command; status = status }
