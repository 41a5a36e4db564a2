-- `write_word` meets its contract.
use native.Mathlib.Omega.{arith}
use Rattle.text.proofs.TwoDigits.{word_text}
use Rattle.text.proofs.text.Text.write_word.Goals as goal

pub returns : goal.returns
returns c =
    rw (
      ← word_text c.args.w (omega arith),
      ← c.pair-first.ensures.first,
      ← c.pair-first.ensures.second,
      ← c.pair-third.ensures.first,
      ← c.pair-third.ensures.second,
    )
    c.write.ensures
