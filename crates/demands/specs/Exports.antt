-- What the demands say of any function for callers in C and Rust: it is a function of the crates below, on what the lent
-- words say, and its answer is put over what is lent.
use Rattle.std.specs.Prelude.{ℕ, ◌≡◌, List}
use Rattle.words.specs.Refusal.{Test}
use Rattle.demands.specs.Entry.{Function, Call}
use Rattle.demands.specs.Answered.{Answered}

-- what a function gives back, and what it leaves in what it is lent to be changed
pub record Leaves (Back Lent : Type 0) : Type 0 where
  pub back : Back
  pub left : Lent

abbrev pub leaving : {Back Lent : Type 0} → Back → Lent → Leaves Back Lent
leaving back left = record { back = back; left = left }

-- every call of a function on these arguments gives this
abbrev pub Gives : (f : Function) → (Call f → Type 0) → {Back : Type 0} → (Call f → Back) → Back → Type 0
Gives f On backOf answer = (r : Call f) → On r → backOf r ≡ answer

-- `answer` is what the function answers, `number_of` its number, and `put` all that is lent with the answer put over it;
-- the call returned `number` and left `after`, and of a refusal n it leaves `refusal n`
pub record Exports
    (tests : List Test)
    {Back Lent : Type 0}
    (answer : Back)
    (Gives : Back → Type 0)
    (number_of : Back → ℕ)
    (put : Back → Lent)
    (refusal : ℕ → Lent)
    (number : ℕ)
    (after : Lent)
    : Type 0 where
  -- it is the function: this is its answer, whoever calls it on what the lent words say
  pub function : Gives answer
  pub told : number ≡ number_of answer
  pub left : after ≡ put answer
  -- demand 1: "A refusal returns its number with everything else zero .. and changes no word": zeros are put over what
  -- is lent for an answer, and all else that is lent is as it was
  pub answered : Answered tests {Lent = Unit {0}} number after refusal tt tt
