-- Demand 3, whole: what it asks, and what exchanging neighbours then keeps and moves.
use Rattle.std.specs.Prelude.{ℕ, ◌+◌, ◌<◌, ◌≡◌, Bool, true, false, not, ◌&&◌, List, [], ◌∷◌, map, length, get_or, ltb, leb, eqb}
use Rattle.words.specs.declared.settings.Settings.{Settings}
use Rattle.windows.specs.declared.window.Window.{Window}
use Rattle.cells.specs.Stack.{stack_pointer, stack_window}
use Rattle.area.specs.Area.{check_area}
use Rattle.memory.specs.State.{State}
use Rattle.message.specs.Heard.{Heard}
use Rattle.message.specs.Tests.{reply_refused}
use Rattle.message.specs.Run.{run, Effect, effects}
use Rattle.exchange.specs.Order.{exchange_all}
use Rattle.exchange.specs.Condition.{all_well_formed, allowed_all}
use Rattle.exchange.specs.Kept.{without_stack_rollover}
use Rattle.exchange.specs.After.{kept_after, stack_after, remembered_after, replied_after}

-- "Start where the whole-area check passes, with 33 reply words."
unfoldable pub starts_well : Settings → State → Bool
starts_well s x = eqb (check_area x.ram s).number 0 && not (reply_refused (length x.reply))

-- "Take any non-empty list of well-formed data messages for this terminal, with fixed settings and no host write
-- between.": `run` takes them so
unfoldable pub takes_well : Settings → List Heard → Bool
takes_well s hs = ltb 0 (length hs) && all_well_formed s hs

-- "Exchange neighbours as often as you like, if they use different cells whose windows don't meet, or that both only
-- send."
unfoldable pub asked : Settings → State → List Heard → List ℕ → Bool
asked s x hs places = (starts_well s x && takes_well s hs) && allowed_all x.ram s places hs

-- address a lies in the window
abbrev pub is_inside : Window → ℕ → Bool
is_inside w a = leb w.start a && ltb a (w.start + w.size)

-- 0 is done
unfoldable pub all_done : List Effect → Type 0
all_done [] = Unit {0}
all_done (e ∷ es) = (e.answer.number ≡ 0) × all_done es

-- the messages `hs` run from x, beside the same messages in the new order run from x; with no exchange at all, `places`
-- is empty and the new order is the old
pub record Exchanged (s : Settings) (x : State) (hs : List Heard) (places : List ℕ) : Type 0 where
  -- no message is refused, in the old order or in the new one
  pub done : all_done (effects s hs x) × all_done (effects s (exchange_all places hs) x)
  -- "All RAM outside the stack ends equal"
  pub long : length (run s (exchange_all places hs) x).ram ≡ length (run s hs x).ram
  pub ram :
      (a : ℕ) →
      is_inside (stack_window x.ram s) a ≡ false →
      get_or (run s (exchange_all places hs) x).ram a 0 ≡ get_or (run s hs x).ram a 0
  -- ", and so does the stack pointer."
  pub pointer : stack_pointer (run s (exchange_all places hs) x).ram s ≡ stack_pointer (run s hs x).ram s
  -- "Each message keeps its reply, descriptor and interrupt word, except the stack-rollover bit."
  pub kept : map without_stack_rollover (effects s (exchange_all places hs) x) ≡ kept_after s x hs places
  -- "The stack holds the last descriptors that fit, in the new order", and the rest of its block is as it was
  pub stack :
      (j : ℕ) →
      j < (stack_window x.ram s).size →
      get_or (run s (exchange_all places hs) x).ram ((stack_window x.ram s).start + j) 0 ≡ stack_after s x hs places j
  -- "the remembered command and status are the new last message's."
  pub remembered : (run s (exchange_all places hs) x).remembered ≡ remembered_after s x hs places
  -- what the lent reply buffer holds at the end
  pub reply : (run s (exchange_all places hs) x).reply ≡ replied_after s x hs places

-- demand 3; `exchange` of proofs/Theorem.antt proves it
abbrev pub Demand : Type 0
Demand =
    (s : Settings) (x : State) (hs : List Heard) (places : List ℕ) → asked s x hs places ≡ true → Exchanged s x hs places
