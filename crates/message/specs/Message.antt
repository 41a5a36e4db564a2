-- One message: its answer, and the state that it leaves: every word of RAM and of the reply buffer, and what is
-- remembered.
use Rattle.std.specs.Prelude.{ℕ, cond, eqb}
use Rattle.records.specs.declared.value.Record.{Record}
use Rattle.words.specs.declared.settings.Settings.{Settings}
use Rattle.memory.specs.State.{State}
use Rattle.memory.specs.Writes.{apply_writes}
use Rattle.plan.specs.declared.plan.Plan.{Plan}
use Rattle.plan.specs.Plan.{plan_of}
use Rattle.writes.specs.Writes.{writes_of}
use Rattle.writes.specs.Reply.{reply_writes}
use Rattle.message.specs.declared.answer.Answer.{Answer}
use Rattle.message.specs.Heard.{Heard}
use Rattle.message.specs.Tests.{refusal_for}
use Rattle.message.specs.Answer.{answer_for}

-- the plan of what was heard, in a state
abbrev pub plan_for : Settings → Record → State → Plan
plan_for s v x = plan_of s x.ram x.remembered v

-- a plan carried out
unfoldable pub carried_out : Settings → Plan → Record → State → State
carried_out s p v x =
    record {
      ram = apply_writes (writes_of s p v) x.ram;
      reply = apply_writes (reply_writes x.ram p.deed) x.reply;
      remembered = p.remembered;
    }

-- by the number that the tests gave; of a refusal, "RAM, reply and remembered state keep their contents"
unfoldable pub state_for : ℕ → Settings → Plan → Record → State → State
state_for number s p v x = cond (eqb number 0) (carried_out s p v x) x

-- the answer to what was heard
unfoldable pub answer_of : Settings → Heard → State → Answer
answer_of s h x = answer_for (refusal_for s h x) (plan_for s h.value x)

-- and the state after it
unfoldable pub step : Settings → Heard → State → State
step s h x = state_for (refusal_for s h x) s (plan_for s h.value x) h.value x
