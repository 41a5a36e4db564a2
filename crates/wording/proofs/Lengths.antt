-- How long each of these words and lines can be.
use Prim.Native.Nat.{ℕ, ◌%◌, ◌≤◌}
use native.Mathlib.Omega.{arith}
use mathlib.Core.Bool.{Bool, true, false, cond}
use mathlib.Core.List.{List}
use lib.ListN.{length, length-append}
use lib.Dec.{eqb}
use Rattle.words.specs.Number.{ram_length, bad_settings, unsound_stack, address_beyond}
use Rattle.memory.specs.declared.kind.Kind.{Kind}
use Rattle.memory.specs.declared.kind.Kind.TheVariants.{Receive, Transmit, Broadcast}
use Rattle.memory.specs.Kind.{kind_numbered}
use Rattle.label.specs.declared.one.Sharer.{Sharer}
use Rattle.text.proofs.Numerals.{decimal_most}
use Rattle.wording.specs.Wording.{kind_name, cell_text, mark_text, marked_text, meet_line, also_text, reason_text, refused_line}

pub kind_most : (kind : Kind) → length (kind_name kind) ≤ 9
kind_most Receive = omega arith
kind_most Transmit = omega arith
kind_most Broadcast = omega arith

pub cell_most : (number : ℕ) → length (cell_text number) ≤ 30
unfolding cell_text
cell_most number = rw length-append (omega (arith, kind_most (kind_numbered number), decimal_most (number % 32)))

pub mark_most : (writes : Bool) → length (mark_text writes) ≤ 9
mark_most true = omega arith
mark_most false = omega arith

pub marked_most : (sharer : Sharer) → length (marked_text sharer) ≤ 39
unfolding marked_text
marked_most sharer = rw length-append (omega (arith, cell_most sharer.cell, mark_most sharer.writes))

pub meet_most : (cell other : Sharer) → length (meet_line cell other) ≤ 86
unfolding meet_line
meet_most cell other = simp length-append (omega (arith, marked_most cell, marked_most other))

pub also_most : (number : ℕ) → length (also_text number) ≤ 32
unfolding also_text
also_most number = simp length-append (omega (arith, cell_most number))

-- the longer of two texts
pub either_most : (b : Bool) (xs ys : List ℕ) (n : ℕ) → length xs ≤ n → length ys ≤ n → length (cond b xs ys) ≤ n
either_most true xs ys n h k = h
either_most false xs ys n h k = k

pub reason_most : (number : ℕ) → length (reason_text number) ≤ 22
unfolding reason_text
reason_most number =
    either_most (eqb number ram_length) _ _ 22 (omega arith)
    (either_most (eqb number bad_settings) _ _ 22 (omega arith)
    (either_most (eqb number unsound_stack) _ _ 22 (omega arith)
    (either_most (eqb number address_beyond) _ _ 22 (omega arith) (omega arith))))

pub refused_most : (number : ℕ) → length (refused_line number) ≤ 53
unfolding refused_line
refused_most number = simp length-append (omega (arith, decimal_most number, reason_most number))
