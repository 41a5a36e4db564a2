-- The answer after one record more.
use Rattle.std.specs.Prelude.{ℕ, cond, List, [], eqb}
use Rattle.words.specs.declared.settings.Settings.{Settings}
use Rattle.memory.specs.State.{State}
use Rattle.memory.specs.Writes.{Write}
use Rattle.writes.specs.declared.part.Part.{Part}
use Rattle.writes.specs.Asked.{planned, as_write}
use Rattle.writes.specs.Writes.{list_of}
use Rattle.message.specs.Heard.{Heard}
use Rattle.message.specs.Tests.{refusal_for}
use Rattle.message.specs.Message.{plan_for}
use Rattle.who_origin.specs.declared.origin.Who.{Who}
use Rattle.who_origin.specs.Origin.{who_after}

-- a record's list of writes, asked for anything; one that is refused writes nothing
unfoldable pub list_in : {A : Type 0} → (ℕ → ℕ → Part → A) → Settings → Heard → State → List A
list_in ask s h x = cond (eqb (refusal_for s h x) 0) (list_of ask s (plan_for s h.value x) h.value) []

-- asked for what RAM takes
abbrev pub writes_in : Settings → Heard → State → List Write
writes_in s h x = list_in as_write s h x

-- the answer after one record more: "the number of the last record whose list of writes includes that address, with its
-- cell and its place in the message, or that it was a stack, pointer .. write"
unfoldable pub who_next : Settings → ℕ → Heard → State → ℕ → Who → Who
who_next s a h x number before = who_after a number (plan_for s h.value x).deed.cell (list_in planned s h x) before
