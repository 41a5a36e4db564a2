-- What demand 1 says of any call: "an answer or a numbered refusal in the stated order".
-- To believe: `stated_order`; `NoneHolds` and `First` of a list of tests.
use Rattle.std.specs.Prelude.{ℕ, ◌≡◌, ◌↔◌, true, List}
use Rattle.words.specs.Refusal.{Test, NoneHolds, First}
use Rattle.demands.specs.Order.{stated_order, follow}

-- what one call answers: `back`, with this number; `refusal n` is what it gives back of a refusal n, and `before` and
-- `after` are what it was lent
pub record Answered
    (tests : List Test)
    {Back Lent : Type 0}
    (number : ℕ)
    (back : Back)
    (refusal : ℕ → Back)
    (before after : Lent)
    : Type 0 where
  -- ".. in the stated order."
  pub order : follow stated_order tests ≡ true
  -- ".. an answer": 0 exactly where no case holds
  pub done : (number ≡ 0) ↔ NoneHolds tests
  -- ".. or a numbered refusal": n exactly where case n holds and none before it
  pub refused : (n : ℕ) → (n ≡ 0 → ⊥) → (number ≡ n) ↔ First tests n
  -- "A refusal returns its number with everything else zero"
  pub zero : (number ≡ 0 → ⊥) → back ≡ refusal number
  -- "and changes no word of RAM, reply or remembered state."
  pub kept : (number ≡ 0 → ⊥) → after ≡ before
