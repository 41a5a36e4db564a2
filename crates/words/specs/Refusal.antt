-- The first number that refuses. "Tested in this order; an entry point tests exactly those about things that it is
-- given."
use Rattle.std.specs.Prelude.{ℕ, ◌≡◌, Bool, true, false, cond, List, [], ◌∷◌, ◌++◌}

-- a number of the table, and whether its case holds
pub record Test : Type 0 where
  pub number : ℕ
  pub holds : Bool

infix 90 ◌when◌
abbrev pub ◌when◌ : ℕ → Bool → Test
number when holds = record { number = number; holds = holds }

-- the number of the first test that holds; "0 is done."
unfoldable pub first_of : List Test → ℕ
first_of [] = 0
first_of (t ∷ ts) = cond t.holds t.number (first_of ts)

-- "No other case is refused.": no test of a list holds
abbrev pub NoneHolds : List Test → Type 0
NoneHolds [] = Unit {0}
NoneHolds (t ∷ ts) = (t.holds ≡ false) × NoneHolds ts

-- a test numbered n holds, and none before it
pub record First (ts : List Test) (n : ℕ) : Type 0 where
  pub before : List Test
  pub after : List Test
  pub splits : ts ≡ before ++ (n when true ∷ after)
  pub none : NoneHolds before
