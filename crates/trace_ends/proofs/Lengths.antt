-- How long the lines are.
use Prim.Native.Nat.{ℕ, ◌≤◌}
use native.Mathlib.Omega.{arith}
use mathlib.Core.Path.{◌≡◌}
use mathlib.Core.Logic.{⊎_elim}
use mathlib.Core.Bool.{true, false}
use lib.ListN.{length, length-append}
use lib.Dec.{eqb}
use Rattle.words.proofs.Basics.{yes_or_no}
use Rattle.text.proofs.Lines.{named_most}
use Rattle.trace_ends.specs.Image.{image_name, image_line}
use Rattle.trace_ends.specs.LastLines.{tail_name, end_name, tail_line, end_line, last_lines}

pub tail_most : (n : ℕ) → length (tail_line n) ≤ 26
unfolding tail_line
tail_most n =
    ⊎_elim (λ (e : eqb n 0 ≡ true). rw e (omega arith))
    (λ (e : eqb n 0 ≡ false). rw e (named_most tail_name n))
    (yes_or_no (eqb n 0))

pub end_most : (n : ℕ) → length (end_line n) ≤ 25
unfolding end_line
end_most n = named_most end_name n

-- the last lines are short
pub last_most : (tail number : ℕ) → length (last_lines tail number) ≤ 52
unfolding last_lines
last_most tail number = rw length-append (omega (arith, tail_most tail, end_most number))

pub image_most : (n : ℕ) → length (image_line n) ≤ 27
unfolding image_line
image_most n = named_most image_name n
