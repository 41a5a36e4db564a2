-- The first `i` words stand in the bytes.
use mathlib.Core.Path.{◌≡◌}
use Rattle.layout.specs.Writing.{put_words}
use Rattle.layout.proofs.writer.put_words.Given as goal

abbrev pub invariant-loop-i : goal.invariant-loop-i
invariant-loop-i l = l.bytes ≡ put_words l.fn.header l.fn.words l.i
