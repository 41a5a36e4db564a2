-- What a message answers.
use Rattle.std.specs.Prelude.{ℕ, false, cond, eqb}
use Rattle.plan.specs.declared.plan.Plan.{Plan}
use Rattle.message.specs.declared.answer.Answer.{Answer}

-- "Result: the number, the rest zero"
unfoldable pub refused_with : ℕ → Answer
refused_with number =
    record {
      number = number;
      block_status = 0;
      cell = 0;
      before = 0;
      after = 0;
      status = 0;
      answered = false;
      sent = 0;
      interrupt = 0;
    }

-- "0 is done."
unfoldable pub accepted_with : Plan → Answer
accepted_with p =
    record {
      number = 0;
      block_status = p.deed.block_status;
      cell = p.deed.cell;
      before = p.deed.before;
      after = p.deed.after;
      status = p.deed.status;
      answered = p.deed.answered;
      sent = p.deed.sent;
      interrupt = p.interrupt;
    }

-- by the number that the tests gave
unfoldable pub answer_for : ℕ → Plan → Answer
answer_for number p = cond (eqb number 0) (accepted_with p) (refused_with number)

-- the same answer with another interrupt word
abbrev pub with_interrupt : Answer → ℕ → Answer
with_interrupt a word =
    record {
      number = a.number;
      block_status = a.block_status;
      cell = a.cell;
      before = a.before;
      after = a.after;
      status = a.status;
      answered = a.answered;
      sent = a.sent;
      interrupt = word;
    }
