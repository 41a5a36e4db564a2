-- Where a word comes from: the last write of a message's list that names its address, and what that write is.
use Rattle.std.specs.Prelude.{ℕ, ◌≡◌, cond, List, [], ◌∷◌, ◌++◌, eqb}
use Rattle.memory.specs.Rows.{Each}
use Rattle.writes.specs.declared.part.Part.{Part}
use Rattle.writes.specs.Asked.{Planned}
use Rattle.who_origin.specs.declared.origin.Who.{Who}
use Rattle.who_origin.specs.declared.origin.Who.TheVariants.{Written}

-- no write of the list names the address
abbrev pub names_not : ℕ → List Planned → Type 0
names_not a ws = Each (λ w. a ≡ w.at → ⊥) ws

-- the last write of the list that names the address
pub record LastNaming (a : ℕ) (ws : List Planned) : Type 0 where
  pub earlier : List Planned
  pub it : Planned
  pub later : List Planned
  pub splits : ws ≡ earlier ++ (it ∷ later)
  pub names : a ≡ it.at
  pub nobody : names_not a later

-- what it says, or what was said before where no write names the address: a later write takes an earlier one's place
unfoldable pub last_said : {A : Type 0} → (Planned → A) → ℕ → List Planned → A → A
last_said says a [] before = before
last_said says a (w ∷ ws) before = last_said says a ws (cond (eqb a w.at) (says w) before)

abbrev pub written : ℕ → ℕ → Part → Who
written number cell part = Written (record { number = number; cell = cell; part = part })

-- the answer after a record of this number and cell, with this list of writes
abbrev pub who_after : ℕ → ℕ → ℕ → List Planned → Who → Who
who_after a number cell ws before = last_said (λ w. written number cell w.part) a ws before
