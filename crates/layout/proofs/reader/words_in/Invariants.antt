-- The first `i` words are filled in.
use mathlib.Core.Path.{◌≡◌}
use Prim.Native.Nat.{◌+◌, ◌*◌}
use lib.ListN.{replicate}
use Rattle.words.specs.Fill.{fill}
use Rattle.layout.specs.Layout.{word_at}
use Rattle.layout.proofs.reader.words_in.Given as goal

abbrev pub invariant-loop-i : goal.invariant-loop-i
invariant-loop-i l = l.words ≡ fill (λ k. word_at l.s (16 + 2 * k)) (replicate 32 0) l.i
