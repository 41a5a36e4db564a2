-- `load_image` meets its contract. The loop's invariant: the first `i` words are filled in.
use Prim.Native.Nat.{◌*◌}
use mathlib.Core.Path.{◌≡◌}
use Rattle.words.specs.Fill.{fill}
use Rattle.layout.specs.Layout.{word_at}
use Rattle.trace_ends.proofs.image.load_image.Given as goal

abbrev pub invariant-loop-i : goal.invariant-loop-i
invariant-loop-i l = l.ram ≡ fill (λ k. word_at l.bytes (2 * k)) l.initial.ram l.i
