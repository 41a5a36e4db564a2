-- One message asked for by a caller: the number that the call returns, and every word that it leaves in what is lent.
use Rattle.std.specs.Prelude.{ℕ, cond, List, eqb}
use Rattle.words.specs.declared.settings.Settings.{Settings}
use Rattle.memory.specs.State.{State, state_of}
use Rattle.message.specs.declared.answer.Answer.{Answer}
use Rattle.message.specs.Heard.{Heard}
use Rattle.message.specs.Tests.{refusal_for}
use Rattle.message.specs.Message.{answer_of, step}
use Rattle.c_words.specs.Over.{over}
use Rattle.c_words.specs.Setup.{remembered_from, remembered_words}
use Rattle.c_words_messages.specs.Answers.{answer_words}

-- what is lent to be written
pub record Lent : Type 0 where
  pub ram : List ℕ
  pub reply : List ℕ
  pub remembered : List ℕ
  pub answer : List ℕ

abbrev pub lent_of : List ℕ → List ℕ → List ℕ → List ℕ → Lent
lent_of ram reply remembered answer = record { ram = ram; reply = reply; remembered = remembered; answer = answer }

-- the state that stands in it
abbrev pub state_in : Lent → State
state_in l = state_of l.ram l.reply (remembered_from l.remembered)

-- a state and an answer put back into it. The remembered words are written only where the message is done: of a refusal
-- "RAM, reply and remembered state keep their contents", whatever words say it.
unfoldable pub handed_back : Lent → State → Answer → Lent
handed_back l x a =
    record {
      ram = x.ram;
      reply = x.reply;
      remembered =
          cond (eqb a.number 0) (over l.remembered (remembered_words x.remembered)) l.remembered;
      answer = over l.answer (answer_words a);
    }

-- the number that the call returns
unfoldable pub call_number : Settings → Heard → Lent → ℕ
call_number s h l = refusal_for s h (state_in l)

-- and what is lent, after it
unfoldable pub lent_after : Settings → Heard → Lent → Lent
lent_after s h l = handed_back l (step s h (state_in l)) (answer_of s h (state_in l))
