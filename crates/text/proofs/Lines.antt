-- How long a line is.
use Prim.Native.Nat.{ℕ, ◌+◌, ◌≤◌}
use native.Mathlib.Omega.{arith}
use mathlib.Core.Path.{◌≡◌, refl}
use mathlib.Core.Logic.{⊎_elim}
use mathlib.Core.Bool.{Bool, true, false}
use mathlib.Core.List.{List, [], ◌∷◌}
use lib.ListN.{length, length-append}
use lib.Dec.{eqb}
use borrow.Author.Tests.{eqb-true}
use Rattle.words.proofs.Basics.{yes_or_no}
use Rattle.message.specs.declared.answer.Answer.{Answer}
use Rattle.text.specs.Text.{decimal_text, digits, places_up_to}
use Rattle.text.specs.Line.{status_text, none_text, three_words, accepted_columns, refused_columns, columns_of, line_of, named_line}
use Rattle.text.proofs.Runs.{length_hex}
use Rattle.text.proofs.Numerals.{decimal_most}

pub length_status : (answered : Bool) (status : ℕ) → length (status_text answered status) ≡ 4
unfolding status_text none_text
length_status true status = length_hex status
length_status false status = refl

pub length_three : (x y z : ℕ) → length (three_words x y z) ≡ 15
unfolding three_words
length_three x y z = simp (length-append, length_hex) (omega arith)

-- an accepted record's number
pub decimal_nothing : decimal_text 0 ≡ 48 ∷ []
unfolding decimal_text digits places_up_to
decimal_nothing = refl

-- an accepted record's number is 0, one digit
pub accepted_long : (a : Answer) → a.number ≡ 0 → length (accepted_columns a) ≡ 29 + length (decimal_text a.sent)
unfolding accepted_columns
accepted_long a e =
    let n : length (decimal_text a.number) ≡ 1 = rw (e, decimal_nothing) in
    simp (length-append, length_three, length_status, length_hex) (omega (arith, n))

pub accepted_most : (a : Answer) → a.number ≡ 0 → length (accepted_columns a) ≤ 50
accepted_most a e = omega (arith, accepted_long a e, decimal_most a.sent)

refused_most : (refusal : ℕ) → length (refused_columns refusal) ≤ 50
unfolding refused_columns
refused_most refusal = rw length-append (omega (arith, decimal_most refusal))

columns_most : (a : Answer) → length (columns_of a) ≤ 50
unfolding columns_of
columns_most a =
    ⊎_elim (λ (e : eqb a.number 0 ≡ true). rw e (accepted_most a (eqb-true a.number 0 e)))
    (λ (e : eqb a.number 0 ≡ false). rw e (refused_most a.number))
    (yes_or_no (eqb a.number 0))

-- a record's line is shorter than its record
pub line_most : (number : ℕ) (a : Answer) → length (line_of number a) ≤ 72
unfolding line_of
line_most number a = rw length-append (omega (arith, decimal_most number, columns_most a))

-- a line of a name and a number
pub named_most : (name : List ℕ) (n : ℕ) → length (named_line name n) ≤ length name + 22
unfolding named_line
named_most name n = simp length-append (omega (arith, decimal_most n))
