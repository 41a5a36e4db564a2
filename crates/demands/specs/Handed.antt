-- A message for a caller in C or Rust is a message, put back as plain words over what was lent; and such calls one after
-- the other.
-- To believe: `state_in`, the state that the lent words say; `handed_back`, a state and an answer put over them;
-- `refusal_words`, "the number, the rest zero".
use Rattle.std.specs.Prelude.{◌≡◌, List, [], ◌∷◌, map}
use Rattle.words.specs.declared.settings.Settings.{Settings}
use Rattle.message.specs.Heard.{Heard}
use Rattle.message.specs.Tests.{tests_for}
use Rattle.message.specs.Message.{answer_of, step}
use Rattle.c_words.specs.Over.{over}
use Rattle.c_words_messages.specs.Answers.{refusal_words}
use Rattle.c_words_messages.specs.Call.{Lent, lent_of, state_in, handed_back}
use Rattle.demands.specs.Calls.{Message, message_of, CMessage}
use Rattle.demands.specs.Meets.{Meets}
use Rattle.demands.specs.Exports.{Exports}

-- the message that a call shows
abbrev pub shown_by : CMessage → Message
shown_by e =
    let x = state_in e.before in
    message_of e.settings e.heard x (answer_of e.settings e.heard x) (step e.settings e.heard x)

-- demands 1 and 2 hold of it; a refusal puts the number and zeros over the answer, whatever the lengths of what is lent,
-- and RAM, reply and remembered words are as they were
abbrev pub MessageExported : CMessage → Type 0
MessageExported e =
    Exports (tests_for e.settings e.heard (state_in e.before)) (shown_by e) Meets (λ m. m.answer.number)
    (λ m. handed_back e.before m.after m.answer)
    (λ n.
    lent_of e.before.ram e.before.reply e.before.remembered (over e.before.answer (refusal_words n)))
    e.number
    e.after

abbrev pub AllExported : List CMessage → Type 0
AllExported [] = Unit {0}
AllExported (e ∷ es) = MessageExported e × AllExported es

abbrev pub heard_by : List CMessage → List Heard
heard_by es = map (λ e. e.heard) es

-- each call is lent the RAM and the remembered words that the one before left; reply and answer may be lent anew
abbrev pub HandedWords : Settings → Lent → List CMessage → Lent → Type 0
HandedWords s l [] k = (k.ram ≡ l.ram) × (k.remembered ≡ l.remembered)
HandedWords s l (e ∷ es) k =
    (e.settings ≡ s)
    × ((e.before.ram ≡ l.ram) × ((e.before.remembered ≡ l.remembered) × HandedWords s e.after es k))
