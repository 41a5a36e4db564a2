-- `put_hex_word` meets its contract: past the buffer's end, and before it.
use Rattle.text.specs.Text.{hex_text}
use Rattle.text.proofs.Runs.{length_hex}
use Rattle.text.proofs.text.Text.put_hex_word.Goals as goal

pub returns-then-is_past : goal.returns-then-is_past
returns-then-is_past c = c.skip.ensures (hex_text c.args.w) (length_hex c.args.w)

pub returns-else-is_past : goal.returns-else-is_past
unfolding hex_text
returns-else-is_past c =
    rw (
      ← c.hex_digit.ensures,
      ← c.hex_digit-else-is_past.ensures,
      ← c.hex_digit-else-is_past-2.ensures,
      ← c.hex_digit-else-is_past-3.ensures,
    )
    c.put_bytes.ensures
