-- Demand 3: "Start where the whole-area check passes, with 33 reply words. Take any non-empty list of well-formed
-- data messages for this terminal, with fixed settings and no host write between. Exchange neighbours as often as you
-- like, if they use different cells whose windows don't meet, or that both only send. All RAM outside the stack ends
-- equal, and so does the stack pointer. Each message keeps its reply, descriptor and interrupt word, except the
-- stack-rollover bit. The stack holds the last descriptors that fit, in the new order; the remembered command and
-- status are the new last message's."
-- To believe: `asked`, the first three sentences as a yes or no; `exchange_all`, exchanges one after the other;
-- `stack_word`, what stands in a stack block after a list of descriptors; `without_stack_rollover`, `remembered_last` and
-- `replied_all`.
use Rattle.std.specs.Prelude.{ℕ, ◌+◌, ◌≤◌, ◌<◌, ◌≡◌, true, false, List, map, length, get_or, take, drop}
use Rattle.words.specs.declared.settings.Settings.{Settings}
use Rattle.words.specs.Bits.{bit_of}
use Rattle.memory.specs.State.{State}
use Rattle.cells.specs.Stack.{stack_pointer, stack_window}
use Rattle.message.specs.Run.{Effect}
use Rattle.c_words.specs.Setup.{remembered_length}
use Rattle.c_words_messages.specs.Call.{Lent, state_in}
use Rattle.exchange.specs.Order.{exchange_all}
use Rattle.exchange.specs.Descriptors.{stack_word}
use Rattle.exchange.specs.Kept.{without_stack_rollover}
use Rattle.exchange.specs.After.{remembered_last, replied_all}
use Rattle.exchange.specs.Exchanged.{asked, is_inside}
use Rattle.demands.specs.Calls.{Message, MessageCall, shows, CMessage, Walked}
use Rattle.demands.specs.Meets.{Meets}
use Rattle.demands.specs.Walks.{Chain, Handed, Each, heard_of, Walks}
use Rattle.demands.specs.Handed.{shown_by, AllExported, heard_by, HandedWords}

-- what a caller sees of a message: its answer, the words at the front of the reply, and the four words where the
-- stack pointer was
abbrev pub seen : Message → Effect
seen m =
    record {
      answer = m.answer;
      sends = take (bit_of m.answer.answered + m.answer.sent) m.after.reply;
      descriptor = take 4 (drop (stack_pointer m.before.ram m.settings) m.after.ram);
    }

abbrev pub all_seen : List Message → List Effect
all_seen ms = map seen ms

-- the messages `old` from x to y, and the same messages in the new order, `new`, from x to z
pub record Exchanged (s : Settings) (x : State) (old new : List Message) (y z : State) (places : List ℕ) : Type 0 where
  -- no message is refused, in the old order or in the new one
  pub done : Each (λ m. m.answer.number ≡ 0) old × Each (λ m. m.answer.number ≡ 0) new
  -- "All RAM outside the stack ends equal"
  pub long : length z.ram ≡ length y.ram
  pub ram : (a : ℕ) → is_inside (stack_window x.ram s) a ≡ false → get_or z.ram a 0 ≡ get_or y.ram a 0
  -- ", and so does the stack pointer."
  pub pointer : stack_pointer z.ram s ≡ stack_pointer y.ram s
  -- "Each message keeps its reply, descriptor and interrupt word, except the stack-rollover bit."
  pub kept : map without_stack_rollover (all_seen new) ≡ exchange_all places (map without_stack_rollover (all_seen old))
  -- "The stack holds the last descriptors that fit, in the new order", and the rest of its block is as it was
  pub stack :
      (j : ℕ) →
      j < (stack_window x.ram s).size →
      get_or z.ram ((stack_window x.ram s).start + j) 0
      ≡ stack_word x.ram (stack_window x.ram s) (map (λ e. e.descriptor) (all_seen new)) j
  -- "the remembered command and status are the new last message's."
  pub remembered : z.remembered ≡ remembered_last x.remembered (heard_of new) (all_seen new)

-- "with 33 reply words": each message is lent so many
abbrev pub Roomy : Message → Type 0
Roomy m = 33 ≤ length m.before.reply

-- two lists of messages from x, the second in the new order: what demand 3 asks of them, one handing RAM and the
-- remembered state to the next
pub record Asked (s : Settings) (x : State) (old new : List Message) (y z : State) (places : List ℕ) : Type 0 where
  pub asked : asked s x (heard_of old) places ≡ true
  pub reordered : heard_of new ≡ exchange_all places (heard_of old)
  pub room : Each Roomy old × Each Roomy new
  pub from_old : Handed s x old y
  pub from_new : Handed s x new z

pub record Demand : Type 0 where
  -- any messages of which demands 1 and 2 hold, one after the other, whichever functions were called for them
  pub messages :
      (s : Settings) (x y z : State) (old new : List Message) (places : List ℕ) →
      Each Meets old →
      Each Meets new →
      Asked s x old new y z places →
      Exchanged s x old new y z places
  -- and where one buffer is lent for all replies, what it holds at the end
  pub reply :
      (s : Settings) (x y z : State) (old new : List Message) (places : List ℕ) →
      Each Meets old →
      Each Meets new →
      Asked s x old new y z places →
      Chain s x new z →
      z.reply ≡ replied_all (all_seen new) x.reply
  -- so any calls of the message's functions
  pub calls :
      (s : Settings) (x y z : State) (old new : List MessageCall) (places : List ℕ) →
      Asked s x (map shows old) (map shows new) y z places →
      Exchanged s x (map shows old) (map shows new) y z places
  -- walks of two traces from the same state, the second with the records of the first in the new order
  pub walks :
      (c d : Walked) (u : Walks c) (v : Walks d) (places : List ℕ) →
      d.settings ≡ c.settings →
      d.before ≡ c.before →
      asked c.settings c.before (heard_of u.messages) places ≡ true →
      heard_of v.messages ≡ exchange_all places (heard_of u.messages) →
      Exchanged c.settings c.before u.messages v.messages c.after d.after places
  -- and calls from C or Rust, one after the other, with room for what is remembered
  pub exported :
      (s : Settings) (l k j : Lent) (es fs : List CMessage) (places : List ℕ) →
      remembered_length ≤ length l.remembered →
      AllExported es →
      AllExported fs →
      asked s (state_in l) (heard_by es) places ≡ true →
      heard_by fs ≡ exchange_all places (heard_by es) →
      Each Roomy (map shown_by es) × Each Roomy (map shown_by fs) →
      HandedWords s l es k →
      HandedWords s l fs j →
      Exchanged s (state_in l) (map shown_by es) (map shown_by fs) (state_in k) (state_in j) places
