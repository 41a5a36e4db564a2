-- The lowest bad number: where none is found none is bad, and the one that is found is bad with none below it.
use Prim.Native.Nat.{ℕ, zero, suc, ◌+◌, ◌-◌, ◌≤◌, ◌<◌}
use native.Mathlib.Nat.{add-zero, add-suc}
use native.Mathlib.Omega.{arith}
use mathlib.Core.Path.{◌≡◌, refl, ◌∙◌}
use mathlib.Core.Logic.{⊎_elim}
use mathlib.Core.Bool.{Bool, true, false, cond, not}
use lib.Dec.{eqb}
use borrow.Author.Tests.{eqb-true, eqb-false, ne_eqb}
use Rattle.words.proofs.Basics.{yes_or_no, lt_or_ge}
use Rattle.memory.proofs.Numbers.{number_below}
use Rattle.area.specs.Area.{or_else, lowest}
use Rattle.area.proofs.Turns.{lowest_more}

-- k is what the search below n finds; number 0 stands for none
pub record Lowest (bad : ℕ → Bool) (n k : ℕ) : Type 0 where
  pub none : k ≡ 0 → (j : ℕ) → 0 < j → j < n → bad j ≡ false
  pub found : 0 < k → bad k ≡ true
  pub below : 0 < k → k < n
  pub first : (j : ℕ) → 0 < j → j < k → bad j ≡ false

module _ (bad : ℕ → Bool) where
  -- one number more
  none_more :
      (n : ℕ) → ((j : ℕ) → 0 < j → j < n → bad j ≡ false) → bad n ≡ false →
      (j : ℕ) → 0 < j → j < suc n → bad j ≡ false
  none_more n h b j p l =
      ⊎_elim (λ (k : j < n). h j p k)
      (λ (k : n ≤ j). let e : j ≡ n = omega arith in rw e b)
      (lt_or_ge j n)

  -- a number found before stays
  lowest_kept : (n r : ℕ) → Lowest bad n r → eqb r 0 ≡ false → Lowest bad (suc n) r
  lowest_kept n r f e =
      record {
        none = λ z. absurd (eqb-false r 0 e z);
        found = f.found;
        below = λ p. omega (arith, f.below p);
        first = f.first;
      }

  lowest_step : (n r : ℕ) (b : Bool) → bad n ≡ b → Lowest bad n r → Lowest bad (suc n) (or_else r b n)
  unfolding or_else
  lowest_step n r true b f =
      ⊎_elim
      (λ (e : eqb r 0 ≡ true).
      rw e
      (record {
        none = λ z j p l. absurd (omega arith);
        found = λ p. b;
        below = λ p. omega arith;
        first = f.none (eqb-true r 0 e);
      }))
      (λ (e : eqb r 0 ≡ false). rw e (lowest_kept n r f e))
      (yes_or_no (eqb r 0))
  lowest_step n r false b f =
      ⊎_elim
      (λ (e : eqb r 0 ≡ true).
      rw e
      (record {
        none = λ z. none_more n (f.none (eqb-true r 0 e)) b;
        found = λ p. absurd (omega arith);
        below = λ p. absurd (omega arith);
        first = λ j p l. absurd (omega arith);
      }))
      (λ (e : eqb r 0 ≡ false). rw e (lowest_kept n r f e))
      (yes_or_no (eqb r 0))

  pub lowest_is : (n : ℕ) → Lowest bad n (lowest bad n)
  unfolding lowest
  lowest_is zero =
      record {
        none = λ z j p l. absurd (omega arith);
        found = λ p. absurd (omega arith);
        below = λ p. absurd (omega arith);
        first = λ j p l. absurd (omega arith);
      }
  lowest_is (suc n) = lowest_step n (lowest bad n) (bad n) refl (lowest_is n)

-- ---- a search that ends at the first bad number

either_zero : (b : Bool) → let zero' : ℕ = 0 in cond b zero' zero' ≡ zero'
either_zero true = refl
either_zero false = refl

good_else : (r n : ℕ) → or_else r false n ≡ r
unfolding or_else
good_else r n =
    ⊎_elim (λ (e : eqb r 0 ≡ true). rw (e, eqb-true r 0 e)) (λ (e : eqb r 0 ≡ false). rw e) (yes_or_no (eqb r 0))

module _ (bad : ℕ → Bool) where
  -- number 0 is none
  pub lowest_start : lowest bad 1 ≡ 0
  unfolding lowest or_else
  lowest_start = either_zero (bad 0)

  pub lowest_on : (i : ℕ) → lowest bad i ≡ 0 → bad i ≡ false → lowest bad (i + 1) ≡ 0
  unfolding or_else
  lowest_on i e b = rw (lowest_more bad i, e, b)

  -- numbers that are not bad are passed over
  pub lowest_same :
      (m d : ℕ) → ((n : ℕ) → m ≤ n → n < m + d → bad n ≡ false) → lowest bad (m + d) ≡ lowest bad m
  unfolding lowest
  lowest_same m zero h = rw add-zero
  lowest_same m (suc d) h =
      rw (add-suc, h (m + d) (omega arith) (omega arith), good_else) (lowest_same m d (λ n l k. h n l (omega arith)))

  -- a number found stays
  pub lowest_stays : (m d : ℕ) → (lowest bad m ≡ 0 → ⊥) → lowest bad (m + d) ≡ lowest bad m
  unfolding lowest or_else
  lowest_stays m zero h = rw add-zero
  lowest_stays m (suc d) h = rw (add-suc, lowest_stays m d h, ne_eqb (lowest bad m) 0 h)

  pub lowest_found : (n i : ℕ) → 0 < i → i < n → lowest bad i ≡ 0 → bad i ≡ true → lowest bad n ≡ i
  unfolding or_else
  lowest_found n i p l e b =
      let f : lowest bad (i + 1) ≡ i = rw (lowest_more bad i, e, b) in
      let d = n - (i + 1) in
      let e : n ≡ i + 1 + d = omega arith in
      rw e (lowest_stays (i + 1) d (λ z. omega arith) ∙ f)

  -- where the search ends
  pub found_here :
      (n i : ℕ) (good : Bool) → 0 < i → i < n → lowest bad i ≡ 0 → good ≡ false → bad i ≡ not good →
      (0 < lowest bad n) × (i ≡ lowest bad n)
  found_here n i good p l e g b =
      let found = lowest_found n i p l e (rw g at b) in
      (omega arith, omega arith)

-- ---- what a search for the first uses

pub ruleset search_turns = (lowest_start, lowest_on, number_below)
