-- A run: messages one after the other, with fixed settings and no host write between.
use Rattle.std.specs.Prelude.{ℕ, cond, List, [], ◌∷◌, eqb}
use Rattle.words.specs.declared.settings.Settings.{Settings}
use Rattle.memory.specs.State.{State}
use Rattle.writes.specs.Writes.{descriptor_of}
use Rattle.writes.specs.Reply.{reply_words}
use Rattle.message.specs.declared.answer.Answer.{Answer}
use Rattle.message.specs.Heard.{Heard}
use Rattle.message.specs.Tests.{refusal_for}
use Rattle.message.specs.Message.{plan_for, answer_of, step}

-- the state after a list of messages
unfoldable pub run : Settings → List Heard → State → State
run s [] x = x
run s (h ∷ hs) x = run s hs (step s h x)

-- what one message shows: its answer, the words that it sends, the four words of its descriptor
pub record Effect : Type 0 where
  pub answer : Answer
  pub sends : List ℕ
  pub descriptor : List ℕ

unfoldable pub effect_of : Settings → Heard → State → Effect
effect_of s h x =
    record {
      answer = answer_of s h x;
      sends = cond (eqb (refusal_for s h x) 0) (reply_words x.ram (plan_for s h.value x).deed) [];
      descriptor = cond (eqb (refusal_for s h x) 0) (descriptor_of (plan_for s h.value x).deed h.value) [];
    }

-- what each message of a run shows, in order
unfoldable pub effects : Settings → List Heard → State → List Effect
effects s [] x = []
effects s (h ∷ hs) x = effect_of s h x ∷ effects s hs (step s h x)
