-- What demand 3 says a run in the new order leaves, from what the messages show.
use Rattle.std.specs.Prelude.{ℕ, ◌-◌, List, [], ◌∷◌, ◌++◌, map, length, get_or, drop}
use Rattle.words.specs.declared.settings.Settings.{Settings}
use Rattle.words.specs.declared.remembered.Remembered.{Remembered}
use Rattle.words.specs.Remembered.{remembering}
use Rattle.cells.specs.Stack.{stack_window}
use Rattle.memory.specs.State.{State}
use Rattle.message.specs.Heard.{Heard}
use Rattle.message.specs.Run.{Effect, effects}
use Rattle.exchange.specs.Order.{exchange_all}
use Rattle.exchange.specs.Descriptors.{stack_word}
use Rattle.exchange.specs.Kept.{without_stack_rollover}

-- "Each message keeps its reply, descriptor and interrupt word, except the stack-rollover bit.": what each message
-- shows in the old order, followed through the same exchanges
unfoldable pub kept_after : Settings → State → List Heard → List ℕ → List Effect
kept_after s x hs places = exchange_all places (map without_stack_rollover (effects s hs x))

-- "The stack holds the last descriptors that fit, in the new order": the word at place j of its block
unfoldable pub stack_after : Settings → State → List Heard → List ℕ → ℕ → ℕ
stack_after s x hs places j =
    stack_word x.ram (stack_window x.ram s) (map (λ e. e.descriptor) (effects s (exchange_all places hs) x)) j

abbrev pub last_word : List ℕ → ℕ
last_word ws = get_or ws (length ws - 1) 0

-- what the last message leaves to be remembered, over what was before
unfoldable pub remembered_last : Remembered → List Heard → List Effect → Remembered
remembered_last before hs es =
    remembering before (last_word (map (λ h. h.value.command) hs)) (last_word (map (λ e. e.answer.status) es))

-- "the remembered command and status are the new last message's."
unfoldable pub remembered_after : Settings → State → List Heard → List ℕ → Remembered
remembered_after s x hs places = remembered_last x.remembered (exchange_all places hs) (effects s (exchange_all places hs) x)

-- words put over the front of a buffer: "its other words keep their contents"
unfoldable pub over_front : List ℕ → List ℕ → List ℕ
over_front words buffer = words ++ drop (length words) buffer

-- the reply buffer after the words of each message, in order
unfoldable pub replied_all : List Effect → List ℕ → List ℕ
replied_all [] buffer = buffer
replied_all (e ∷ es) buffer = replied_all es (over_front e.sends buffer)

-- the reply buffer: what each message sends goes over its front, in the new order
unfoldable pub replied_after : Settings → State → List Heard → List ℕ → List ℕ
replied_after s x hs places = replied_all (effects s (exchange_all places hs) x) x.reply
