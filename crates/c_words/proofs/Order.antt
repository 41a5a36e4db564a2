-- The one law for writing a list of fields, however many: words put from the last to the first, in fours and the rest one
-- by one, stand as those put in turn.
use Prim.Native.Nat.{ℕ, suc, ◌+◌, ◌<◌}
use native.Mathlib.Numerals.{unary_clauses}
use native.Mathlib.Omega.{arith}
use mathlib.Core.Path.{◌≡◌, refl, ◌∙◌}
use mathlib.Core.List.{List, [], ◌∷◌, ◌++◌}
use lib.ListN.{length, set}
use lib.Seq.{sets, set_comm}
use Rattle.words.proofs.Runs.{sets_append}

-- a word before others
pub set_later : (xs ys : List ℕ) (i j a : ℕ) → i < j → sets (set xs i a) j ys ≡ set (sets xs j ys) i a
set_later xs [] i j a h = refl
set_later xs (y ∷ ys) i j a h =
    let p : (i ≡ j → ⊥) = λ e. omega arith in
    rw (set_comm xs i j a y p) (set_later (set xs j y) ys i (suc j) a (omega arith))

-- the words of ys from place i on: those behind the last four one by one, the last of them first, and then the fours
abbrev pub in_fours : List ℕ → ℕ → List ℕ → List ℕ
in_fours xs i [] = xs
in_fours xs i (a ∷ []) = set xs i a
in_fours xs i (a ∷ b ∷ []) = set (set xs (suc i) b) i a
in_fours xs i (a ∷ b ∷ c ∷ []) = set (set (set xs (suc (suc i)) c) (suc i) b) i a
in_fours xs i (a ∷ b ∷ c ∷ d ∷ ys) = sets (in_fours xs (suc (suc (suc (suc i)))) ys) i (a ∷ b ∷ c ∷ d ∷ [])

pub fields_put : (xs ys : List ℕ) (i : ℕ) → sets xs i ys ≡ in_fours xs i ys
fields_put xs [] i = refl
fields_put xs (a ∷ []) i = refl
fields_put xs (a ∷ b ∷ []) i = set_later xs (b ∷ []) i (suc i) a (omega arith)
fields_put xs (a ∷ b ∷ c ∷ []) i =
    set_later xs (b ∷ c ∷ []) i (suc i) a (omega arith)
    ∙ rw (set_later xs (c ∷ []) (suc i) (suc (suc i)) b (omega arith))
fields_put xs (a ∷ b ∷ c ∷ d ∷ ys) i =
    let j = suc (suc (suc (suc i))) in
    let x₁ = set xs i a in
    let x₂ = set x₁ (suc i) b in
    let x₃ = set x₂ (suc (suc i)) c in
    set_later x₃ ys (suc (suc (suc i))) j d (omega arith)
    ∙ rw (
      set_later x₂ ys (suc (suc i)) j c (omega arith),
      set_later x₁ ys (suc i) j b (omega arith),
      set_later xs ys i j a (omega arith),
      fields_put xs ys j,
    )

-- four words, the last first
pub four_back :
    (xs : List ℕ) (i a b c d : ℕ) →
    sets xs i (a ∷ b ∷ c ∷ d ∷ []) ≡ set (set (set (set xs (i + 3) d) (i + 2) c) (i + 1) b) i a
four_back xs i a b c d =
    simp unary_clauses
    (set_later xs (b ∷ c ∷ d ∷ []) i (suc i) a (omega arith)
    ∙ rw (fields_put xs (b ∷ c ∷ d ∷ []) (suc i)))

-- the words of a value: four, thirty-two, and one behind them
pub value_put :
    (xs words : List ℕ) (a b c d e : ℕ) → length words ≡ 32 →
    set (sets (sets xs 0 (a ∷ b ∷ c ∷ d ∷ [])) 4 words) 36 e ≡ sets xs 0 (a ∷ b ∷ c ∷ d ∷ (words ++ (e ∷ [])))
value_put xs words a b c d e h = rw h at (sets_append (sets xs 0 (a ∷ b ∷ c ∷ d ∷ [])) words (e ∷ []) 4)
