-- The one law of functions for C and Rust: what demand 1 says of a function it says of the function that is exported.
use Prim.Native.Nat.{ℕ}
use mathlib.Core.Path.{◌≡◌, refl, ap, ◌∙◌}
use mathlib.Core.List.{List}
use Rattle.words.specs.Refusal.{Test}
use Rattle.demands.specs.Answered.{Answered}
use Rattle.demands.specs.Exports.{leaving, Exports}
use Rattle.demands.specs.First.{AnsweredOnly}

-- an answer, and what is lent to be changed beside it
pub beside :
    (tests : List Test) {Back Lent : Type 0} (number : ℕ) (back : Back) (refusal : ℕ → Back) (before after : Lent) →
    Answered tests number back refusal before after →
    AnsweredOnly tests number (leaving back after) (λ n. leaving (refusal n) before)
beside tests number back refusal before after a =
    record {
      order = a.order;
      done = a.done;
      refused = a.refused;
      zero = λ m i. leaving (a.zero m i) (a.kept m i);
      kept = λ m. refl;
    }

pub exported :
    (tests : List Test) {Back Lent : Type 0} (Gives : Back → Type 0) (number_of : Back → ℕ) (put : Back → Lent)
    (answer : Back) (its : ℕ → Back) (refusal : ℕ → Lent) (number : ℕ) (after : Lent) →
    AnsweredOnly tests (number_of answer) answer its →
    ((n : ℕ) → (n ≡ 0 → ⊥) → put (its n) ≡ refusal n) →
    Gives answer →
    number ≡ number_of answer →
    after ≡ put answer →
    Exports tests answer Gives number_of put refusal number after
exported tests Gives number_of put answer its refusal number after a zeros gives told left =
    record {
      function = gives;
      told = told;
      left = left;
      answered =
          rw told
          (record {
            order = a.order;
            done = a.done;
            refused = a.refused;
            zero = λ m. left ∙ (ap put (a.zero m) ∙ zeros (number_of answer) m);
            kept = λ m. refl;
          });
    }
