-- The words before place `i` are filled in.
use Rattle.std.proofs.Common.{◌≡◌, ◌≤◌, ◌+◌, ◌-◌, max, length, get_or, replicate}
use Rattle.words.specs.Fill.{fill}
use Rattle.c_words_messages.proofs.values.words_from.Given as goal

abbrev pub invariant-loop-i : goal.invariant-loop-i
invariant-loop-i l =
    ((4 ≤ l.i) × (l.i ≤ max 4 (length l.xs))) × (l.words ≡ fill (λ j. get_or l.xs (4 + j) 0) (replicate 32 0) (l.i - 4))
