-- What demands 1 and 2 say of one message, whichever function was called for it: the tests that refuse it, and what an
-- accepted one leaves.
-- To believe: `tests_for`, the tests of a message in the table's order, and `refused_with`, what a refusal answers;
-- `plan_of`, what document 01 works out of a message (its cell and window `target_of`, its deed `deed_of`, its stack entry
-- `entry_of`); `accepted_with`, what is answered of it; `reply_words` and `descriptor_of`, the words that it sends and
-- stacks.
use Rattle.std.specs.Prelude.{ℕ, ◌+◌, ◌<◌, ◌≡◌, ◌++◌, length, get_or, drop}
use Rattle.words.specs.Bits.{bit_of}
use Rattle.words.specs.Remembered.{remembering}
use Rattle.words.specs.Refusal.{NoneHolds}
use Rattle.memory.specs.Map.{lookup_place, stack_pointer_place}
use Rattle.windows.specs.Window.{place_of}
use Rattle.cells.specs.Stack.{stack_pointer, stack_window}
use Rattle.plan.specs.declared.deed.Deed.{Deed}
use Rattle.plan.specs.declared.plan.Plan.{Plan}
use Rattle.plan.specs.Plan.{interrupt_word}
use Rattle.writes.specs.Writes.{descriptor_of}
use Rattle.writes.specs.Reply.{reply_words}
use Rattle.message.specs.Tests.{tests_for}
use Rattle.message.specs.Message.{plan_for}
use Rattle.message.specs.Answer.{refused_with, accepted_with}
use Rattle.demands.specs.Calls.{Message}
use Rattle.demands.specs.Answered.{Answered}

-- demand 1
abbrev pub MessageAnswered : Message → Type 0
MessageAnswered m =
    Answered (tests_for m.settings m.heard m.before) m.answer.number m.answer refused_with m.before
    m.after

-- what document 01 works out of a message
abbrev pub planned : Message → Plan
planned m = plan_for m.settings m.heard.value m.before

abbrev pub deed : Message → Deed
deed m = (planned m).deed

-- address a is none that the message writes to: none in its cell
pub record CellUntouched (m : Message) (a : ℕ) : Type 0 where
  pub stored : (k : ℕ) → k < (deed m).stored → a ≡ place_of (deed m).window k → ⊥
  pub pointer : a ≡ lookup_place m.settings.area (deed m).cell → ⊥

-- and none on the stack
pub record Untouched (m : Message) (a : ℕ) : Type 0 where
  pub cell : CellUntouched m a
  pub descriptor : (k : ℕ) → k < 4 → a ≡ stack_pointer m.before.ram m.settings + k → ⊥
  pub stack : a ≡ stack_pointer_place m.settings.area → ⊥

-- "every word of RAM": of the cell
pub record CellWorked (m : Message) : Type 0 where
  -- the words stored, from the lookup pointer on, wrapping inside the window
  pub stored :
      (k : ℕ) →
      k < (deed m).stored →
      get_or m.after.ram (place_of (deed m).window k) 0 ≡ get_or m.heard.value.words k 0
  -- the lookup pointer
  pub pointer : get_or m.after.ram (lookup_place m.settings.area (deed m).cell) 0 ≡ (deed m).after

-- an accepted message
pub record Worked (m : Message) : Type 0 where
  -- "the reply": it "goes to the front of a lent buffer; its other words keep their contents"
  pub reply :
      m.after.reply
      ≡ reply_words m.before.ram (deed m) ++ drop (length (reply_words m.before.ram (deed m))) m.before.reply
  -- the status where it was sent, and as many data words as the answer tells
  pub sent : length (reply_words m.before.ram (deed m)) ≡ bit_of m.answer.answered + m.answer.sent
  -- "the interrupt word", and all else that is answered
  pub interrupt : m.answer.interrupt ≡ interrupt_word (deed m).signals (planned m).entry.wrapped
  pub answer : m.answer ≡ accepted_with (planned m)
  -- "the remembered state": the command and the status word
  pub remembered : m.after.remembered ≡ remembering m.before.remembered m.heard.value.command (deed m).status
  -- "every word of RAM": of the cell
  pub cell : CellWorked m
  -- "Four stack words at the stack pointer"
  pub descriptor :
      (k : ℕ) →
      k < 4 →
      get_or m.after.ram (stack_pointer m.before.ram m.settings + k) 0
      ≡ get_or (descriptor_of (deed m) m.heard.value) k 0
  -- "The stack pointer moves on by 4, wrapping."
  pub stack : stack_pointer m.after.ram m.settings ≡ place_of (stack_window m.before.ram m.settings) 4
  -- and no other word changes
  pub long : length m.after.ram ≡ length m.before.ram
  pub others : (a : ℕ) → Untouched m a → get_or m.after.ram a 0 ≡ get_or m.before.ram a 0

-- demand 2
pub record MessageWorked (m : Message) : Type 0 where
  -- "No other case is refused.": what no test refuses is accepted
  pub accepted : NoneHolds (tests_for m.settings m.heard m.before) → m.answer.number ≡ 0
  -- "After each accepted message"
  pub worked : m.answer.number ≡ 0 → Worked m

-- both
pub record Meets (m : Message) : Type 0 where
  pub first : MessageAnswered m
  pub second : MessageWorked m
