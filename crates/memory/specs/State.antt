-- What stands between two messages: RAM, the lent reply buffer, and what the terminal remembers.
use Rattle.std.specs.Prelude.{ℕ, List}
use Rattle.words.specs.declared.remembered.Remembered.{Remembered}

pub record State : Type 0 where
  pub ram : List ℕ
  pub reply : List ℕ
  pub remembered : Remembered

abbrev pub state_of : List ℕ → List ℕ → Remembered → State
state_of ram reply remembered = record { ram = ram; reply = reply; remembered = remembered }
