-- The one law for reading: where there is room for every field, what was put is what is read. It speaks of any list of
-- fields, and of any reader that looks at their places alone.
use Prim.Native.Nat.{ℕ, zero, suc, ◌+◌, ◌≤◌}
use native.Mathlib.Omega.{arith}
use mathlib.Core.Path.{◌≡◌, refl, ap, ◌∙◌}
use mathlib.Core.List.{List, [], ◌∷◌}
use lib.ListN.{length, set, length-set}
use lib.Seq.{sets, length-sets, get_or-set_same}
use Rattle.words.specs.declared.remembered.Remembered.{Remembered}
use Rattle.c_words.specs.Over.{over}
use Rattle.c_words.specs.Fields.{word_in}
use Rattle.c_words.specs.Setup.{remembered_length, remembered_from, remembered_words}
use Rattle.c_words.proofs.Order.{set_later}

-- the n words from place i on
abbrev pub words_from : ℕ → ℕ → List ℕ → List ℕ
words_from i zero xs = []
words_from i (suc n) xs = word_in xs i ∷ words_from (suc i) n xs

words_again : (i : ℕ) (xs ys : List ℕ) → i + length ys ≤ length xs → words_from i (length ys) (sets xs i ys) ≡ ys
words_again i xs [] h = refl
words_again i xs (y ∷ ys) h =
    let long : suc i + length ys ≤ length (set xs i y) = rw length-set (omega arith) in
    let rest = words_again (suc i) (set xs i y) ys long in
    let later = set_later xs ys i (suc i) y (omega arith) in
    let first : word_in (sets xs i (y ∷ ys)) i ≡ y =
    ap (λ (zs : List ℕ). word_in zs i) later
    ∙ get_or-set_same (sets xs (suc i) ys) i y 0 (rw length-sets (omega arith)) in
    λ j. first j ∷ rest j

pub read_again :
    {T : Type 0} (from : List ℕ → T) (n : ℕ) →
    ((xs : List ℕ) → from xs ≡ from (words_from 0 n xs)) →
    (xs ys : List ℕ) → length ys ≡ n → n ≤ length xs →
    from (over xs ys) ≡ from ys
read_again from n looks xs ys e room =
    looks (over xs ys) ∙ ap from (rw e at (words_again 0 xs ys (omega arith)))

pub remembered_again :
    (xs : List ℕ) (m : Remembered) → remembered_length ≤ length xs → remembered_from (over xs (remembered_words m)) ≡ m
unfolding remembered_from remembered_words
remembered_again xs m room = read_again remembered_from remembered_length (λ zs. refl) xs (remembered_words m) refl room
