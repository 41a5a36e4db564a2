-- `word_of` meets its contract. The loop's invariant: the bits so far are in the word.
use mathlib.Core.Path.{◌≡◌}
use Rattle.words.specs.Bits.{bits_of}
use Rattle.words.proofs.bits.word_of.Given as goal

abbrev pub invariant-loop-bit : goal.invariant-loop-bit
invariant-loop-bit l = l.word ≡ bits_of l.bit-items l.bit-index
