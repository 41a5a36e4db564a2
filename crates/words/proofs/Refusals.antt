-- The order of refusals: when no number refuses, and when a number is the first that does. The numbers of messages,
-- check and label rest on these laws: "0 is done. No other case is refused."
use Prim.Native.Nat.{ℕ, ◌≤◌}
use native.Mathlib.Omega.{arith}
use mathlib.Core.Path.{◌≡◌, refl, sym, ap, ◌∙◌}
use mathlib.Core.Logic.{◌↔◌, ⊎_elim}
use mathlib.Core.Bool.{Bool, true, false, cond, ◌&&◌}
use mathlib.Core.List.{List, [], ◌∷◌, ◌++◌}
use lib.Dec.{ltb, leb, eqb}
use borrow.Author.Tests.{ltb-true, leb-true, eq-eqb, ne_eqb}
use Rattle.std.proofs.lemmas.Bool.{cases_Bool}
use Rattle.words.proofs.Basics.{and_left, and_right}
use Rattle.words.specs.Refusal.{Test, ◌when◌, first_of, NoneHolds, First}

-- ---- any list of tests

-- "0 is done", so it is no test's number: computed, since the numbers of a list of tests are written out
abbrev pub numbered : List Test → Bool
numbered [] = true
numbered (t ∷ ts) = ltb 0 t.number && numbered ts

-- whether the first test of this number holds; no, where there is none
abbrev pub held : ℕ → List Test → Bool
held n [] = false
held n (t ∷ ts) = cond (eqb n t.number) t.holds (held n ts)

not_zero : (t : Test) (ts : List Test) → numbered (t ∷ ts) ≡ true → t.number ≡ 0 → ⊥
not_zero t ts m e = let l = ltb-true 0 t.number (and_left (ltb 0 t.number) (numbered ts) m) in omega arith

rest_numbered : (t : Test) (ts : List Test) → numbered (t ∷ ts) ≡ true → numbered ts ≡ true
rest_numbered t ts m = and_right (ltb 0 t.number) (numbered ts) m

none_holds : (ts : List Test) → numbered ts ≡ true → first_of ts ≡ 0 → NoneHolds ts
unfolding first_of
none_holds [] m e = tt
none_holds (t ∷ ts) m e =
    ⊎_elim
    (λ it. absurd (not_zero t ts m (rw it at e)))
    (λ fails. (fails, none_holds ts (rest_numbered t ts m) (rw fails at e)))
    (cases_Bool t.holds)

none_held : (ts : List Test) → NoneHolds ts → (n : ℕ) → held n ts ≡ false
none_held [] h n = refl
none_held (t ∷ ts) h n =
    ⊎_elim (λ it. rw it h.0) (λ other. rw other (none_held ts h.1 n)) (cases_Bool (eqb n t.number))

-- where nothing refuses, the test of each number does not hold
pub accepted : (ts : List Test) → numbered ts ≡ true → first_of ts ≡ 0 → (n : ℕ) → held n ts ≡ false
accepted ts m e = none_held ts (none_holds ts m e)

zero_of : (ts : List Test) → NoneHolds ts → first_of ts ≡ 0
unfolding first_of
zero_of [] h = refl
zero_of (t ∷ ts) h = rw h.0 (zero_of ts h.1)

-- the answer is 0 exactly when no test holds
pub first_zero : (ts : List Test) → numbered ts ≡ true → (first_of ts ≡ 0) ↔ NoneHolds ts
first_zero ts m = (none_holds ts m, zero_of ts)

one_more : (t : Test) (ts : List Test) (n : ℕ) → t.holds ≡ false → First ts n → First (t ∷ ts) n
one_more t ts n fails f =
    record { before = t ∷ f.before; after = f.after; splits = ap (λ (l : List Test). t ∷ l) f.splits; none = (fails, f.none) }

first_of_lem : (ts : List Test) (n : ℕ) → (n ≡ 0 → ⊥) → first_of ts ≡ n → First ts n
unfolding first_of
first_of_lem [] n m e = absurd (m (sym e))
first_of_lem (t ∷ ts) n m e =
    ⊎_elim
    (λ held.
    let same : t.number ≡ n = rw held at e in
    record { before = []; after = ts; splits = λ i. record { number = same i; holds = held i } ∷ ts; none = tt })
    (λ fails. one_more t ts n fails (first_of_lem ts n m (rw fails at e)))
    (cases_Bool t.holds)

after_none : (before after : List Test) (n : ℕ) → NoneHolds before → first_of (before ++ (record { number = n; holds = true } ∷ after)) ≡ n
unfolding first_of
after_none [] after n h = refl
after_none (t ∷ ts) after n h = rw h.0 (after_none ts after n h.1)

-- the answer is n, which is not 0, exactly when a test numbered n holds and none before it
pub first_number : (ts : List Test) (n : ℕ) → (n ≡ 0 → ⊥) → (first_of ts ≡ n) ↔ First ts n
first_number ts n m =
    (first_of_lem ts n m, λ f. ap first_of f.splits ∙ after_none f.before f.after n f.none)

-- one test more in front of a list that is split
one_in_front :
    (it : Bool) (n own all others : ℕ) → (n ≡ 0 → ⊥) →
    all ≡ cond (eqb own 0) others own →
    cond it n all ≡ cond (eqb (cond it n own) 0) others (cond it n own)
one_in_front true n own all others m e = rw (ne_eqb n 0 m)
one_in_front false n own all others m e = e

-- what stands behind a list of tests counts only where none of them holds
first_then :
    (ts us : List Test) → numbered ts ≡ true → first_of (ts ++ us) ≡ cond (eqb (first_of ts) 0) (first_of us) (first_of ts)
unfolding first_of
first_then [] us m = refl
first_then (t ∷ ts) us m =
    one_in_front t.holds t.number (first_of ts) (first_of (ts ++ us)) (first_of us) (not_zero t ts m)
    (first_then ts us (rest_numbered t ts m))

-- a number that the first tests give is the answer
pub first_stops : (ts us : List Test) → numbered ts ≡ true → (first_of ts ≡ 0 → ⊥) → first_of (ts ++ us) ≡ first_of ts
first_stops ts us m h = rw (first_then ts us m, ne_eqb (first_of ts) 0 h)

-- and where they give none, the others decide
pub first_passes : (ts us : List Test) → numbered ts ≡ true → first_of ts ≡ 0 → first_of (ts ++ us) ≡ first_of us
first_passes ts us m e = rw (first_then ts us m, eq-eqb (first_of ts) 0 e)

-- no number is over n: computed too
abbrev pub at_most : ℕ → List Test → Bool
at_most n [] = true
at_most n (t ∷ ts) = leb t.number n && at_most n ts

pub first_at_most : (n : ℕ) (ts : List Test) → at_most n ts ≡ true → first_of ts ≤ n
unfolding first_of
first_at_most n [] h = omega arith
first_at_most n (t ∷ ts) h =
    ⊎_elim (λ it. rw it (leb-true t.number n (and_left (leb t.number n) (at_most n ts) h)))
    (λ fails. rw fails (first_at_most n ts (and_right (leb t.number n) (at_most n ts) h))) (cases_Bool t.holds)

-- a last test that does not hold plays no part
pub last_no : (ts : List Test) (n : ℕ) → first_of (ts ++ (n when false ∷ [])) ≡ first_of ts
unfolding first_of
last_no [] n = refl
last_no (t ∷ ts) n = rw (last_no ts n)
