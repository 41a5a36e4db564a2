-- The calls for a message and for a walk of a trace, and what each shows, in the definitions' words.
use Rattle.std.specs.Prelude.{ℕ, List}
use Rattle.words.specs.declared.settings.Settings.{Settings}
use Rattle.memory.specs.State.{State, state_of}
use Rattle.message.specs.declared.answer.Answer.{Answer}
use Rattle.message.specs.Heard.{Heard, heard_value, heard_bytes, heard_long}
use Rattle.message.specs.Performed.{answer_in, remembered_in}
use Rattle.c_words.specs.Setup.{settings_from}
use Rattle.c_words_messages.specs.Values.{value_from}
use Rattle.c_words_messages.specs.Call.{Lent, lent_of}
use Rattle.demands.specs.Entry.{Call}
use Rattle.demands.specs.Functions.{message_from_bytes, message_from_value, message_from_long, perform_bytes, perform_value_call, perform_long_call, walk_trace, c_message, c_message_value, c_message_long}

-- ---- one message

-- what it shows: what was heard in which state, the answer, and the state after it
pub record Message : Type 0 where
  pub settings : Settings
  pub heard : Heard
  pub before : State
  pub answer : Answer
  pub after : State

abbrev pub message_of : Settings → Heard → State → Answer → State → Message
message_of s h x answer y = record { settings = s; heard = h; before = x; answer = answer; after = y }

abbrev pub bytes_message : Call message_from_bytes → Message
bytes_message c =
    let (ram, (reply, (s, (m, (bytes, none))))) = c.given in
    message_of s (heard_bytes bytes.now) (state_of ram.now reply.now m) c.back.answer
    (state_of c.left.0 c.left.1.0 c.back.remembered)

abbrev pub value_message : Call message_from_value → Message
value_message c =
    let (ram, (reply, (s, (m, (v, none))))) = c.given in
    message_of s (heard_value v) (state_of ram.now reply.now m) c.back.answer
    (state_of c.left.0 c.left.1.0 c.back.remembered)

abbrev pub long_message : Call message_from_long → Message
long_message c =
    let (ram, (reply, (s, (m, (bytes, none))))) = c.given in
    message_of s (heard_long bytes.now) (state_of ram.now reply.now m) c.back.answer
    (state_of c.left.0 c.left.1.0 c.back.remembered)

-- the same for who needs the plan: what comes back is an enum, and `answer_in` gives its number and values
abbrev pub bytes_performed : Call perform_bytes → Message
bytes_performed c =
    let (ram, (reply, (s, (m, (bytes, none))))) = c.given in
    message_of s (heard_bytes bytes.now) (state_of ram.now reply.now m) (answer_in c.back)
    (state_of c.left.0 c.left.1.0 (remembered_in m c.back))

abbrev pub value_performed : Call perform_value_call → Message
value_performed c =
    let (ram, (reply, (s, (m, (v, none))))) = c.given in
    message_of s (heard_value v) (state_of ram.now reply.now m) (answer_in c.back)
    (state_of c.left.0 c.left.1.0 (remembered_in m c.back))

abbrev pub long_performed : Call perform_long_call → Message
long_performed c =
    let (ram, (reply, (s, (m, (bytes, none))))) = c.given in
    message_of s (heard_long bytes.now) (state_of ram.now reply.now m) (answer_in c.back)
    (state_of c.left.0 c.left.1.0 (remembered_in m c.back))

-- a call of any of the six
pub data MessageCall : Type 0 where
  from_bytes : Call message_from_bytes → MessageCall
  from_value_call : Call message_from_value → MessageCall
  from_long_call : Call message_from_long → MessageCall
  performed_bytes : Call perform_bytes → MessageCall
  performed_value : Call perform_value_call → MessageCall
  performed_long : Call perform_long_call → MessageCall

abbrev pub shows : MessageCall → Message
shows (from_bytes c) = bytes_message c
shows (from_value_call c) = value_message c
shows (from_long_call c) = long_message c
shows (performed_bytes c) = bytes_performed c
shows (performed_value c) = value_performed c
shows (performed_long c) = long_performed c

-- ---- one message for a caller in C or Rust

-- what it shows: the settings and what was heard, from plain words; the number; what was lent to be written, before
-- and after
pub record CMessage : Type 0 where
  pub settings : Settings
  pub heard : Heard
  pub before : Lent
  pub number : ℕ
  pub after : Lent

abbrev pub c_message_of : List ℕ → Heard → Lent → ℕ → Lent → CMessage
c_message_of settings h l number k =
    record { settings = settings_from settings; heard = h; before = l; number = number; after = k }

abbrev pub c_bytes : Call c_message → CMessage
c_bytes c =
    let (ram, (reply, (settings, (remembered, (bytes, (answer, none)))))) = c.given in
    c_message_of settings.now (heard_bytes bytes.now) (lent_of ram.now reply.now remembered.now answer.now)
    c.back
    (lent_of c.left.0 c.left.1.0 c.left.1.1.1.0 c.left.1.1.1.1.1.0)

abbrev pub c_value : Call c_message_value → CMessage
c_value c =
    let (ram, (reply, (settings, (remembered, (value, (answer, none)))))) = c.given in
    c_message_of settings.now (heard_value (value_from value.now))
    (lent_of ram.now reply.now remembered.now answer.now)
    c.back
    (lent_of c.left.0 c.left.1.0 c.left.1.1.1.0 c.left.1.1.1.1.1.0)

abbrev pub c_long : Call c_message_long → CMessage
c_long c =
    let (ram, (reply, (settings, (remembered, (bytes, (answer, none)))))) = c.given in
    c_message_of settings.now (heard_long bytes.now) (lent_of ram.now reply.now remembered.now answer.now)
    c.back
    (lent_of c.left.0 c.left.1.0 c.left.1.1.1.0 c.left.1.1.1.1.1.0)

-- ---- a walk of a trace

-- what it shows: the trace and the state that it starts from, the number of the last record before and the lent
-- buffer; the state after it, the number of its last record, the buffer and how much of it is used
pub record Walked : Type 0 where
  pub settings : Settings
  pub trace : List ℕ
  pub before : State
  pub from : ℕ
  pub room : List ℕ
  pub after : State
  pub number : ℕ
  pub text : List ℕ
  pub used : ℕ

abbrev pub walked : Call walk_trace → Walked
walked c =
    let (ram, (reply, (room, (s, (m, (number, (trace, none))))))) = c.given in
    record {
      settings = s;
      trace = trace.now;
      before = state_of ram.now reply.now m;
      from = number;
      room = room.now;
      after = state_of c.left.0 c.left.1.0 c.back.remembered;
      number = c.back.number;
      text = c.left.1.1.0;
      used = c.back.used;
    }
