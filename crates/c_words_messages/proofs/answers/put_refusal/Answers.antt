-- `put_refusal` meets its contract: nine words in a row.
use Rattle.message.specs.Answer.{refused_with}
use Rattle.c_words.proofs.Order.{fields_put}
use Rattle.c_words_messages.specs.Answers.{answer_words}
use Rattle.c_words_messages.proofs.answers.put_refusal.Goals as goal

pub returns : goal.returns
unfolding answer_words refused_with
returns c =
    rw (
      fields_put,
      c.put_four-2.ensures,
      c.put_four.ensures,
      c.put.ensures,
    )
