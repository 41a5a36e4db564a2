-- `put_answer` meets its contract: nine words in a row.
use Rattle.c_words_messages.specs.Answers.{answer_words}
use Rattle.c_words.proofs.Order.{fields_put}
use Rattle.c_words.proofs.Bit.{from_bool-is}
use Rattle.c_words_messages.proofs.answers.put_answer.Goals as goal

pub returns : goal.returns
unfolding answer_words
returns c =
    rw (
      fields_put,
      c.put_four-2.ensures,
      c.put_four.ensures,
      c.put.ensures,
      c.from.ensures,
      from_bool-is,
    )
