-- Lists of messages with an exchange, to be computed: three that demand 3 speaks of, and others of each of
-- which one condition fails.
use Rattle.std.specs.Prelude.{ℕ, ◌-◌, Bool, List, [], ◌∷◌, ◌++◌, map, length, get_or, replicate}
use Rattle.words.specs.declared.settings.Settings.{Settings}
use Rattle.words.specs.declared.remembered.Remembered.{Remembered}
use Rattle.words.specs.Remembered.{nothing_remembered}
use Rattle.words.specs.Settings.{program_settings}
use Rattle.memory.specs.Writes.{Write, apply_writes}
use Rattle.memory.specs.State.{State, state_of}
use Rattle.message.specs.Heard.{Heard, heard_value}
use Rattle.message.specs.Run.{run, Effect, effects}
use Rattle.message.specs.Edges.{put}
use Rattle.exchange.specs.Order.{exchange_all}
use Rattle.exchange.specs.After.{kept_after, stack_after, remembered_after}
use Rattle.exchange.specs.Exchanged.{asked}

-- as in the trace program
abbrev pub bench : Settings
bench = program_settings

-- every receive and transmit pointer is 0400, all else 0; the whole-area check passes
unfoldable pub plain_ram : List ℕ
plain_ram = replicate 0x140 0 ++ (replicate 64 0x400 ++ replicate (4096 - 0x180) 0)

-- a message with flags and a transmit command: command, time tag, words seen
abbrev pub marked : ℕ → ℕ → ℕ → ℕ → List ℕ → Heard
marked flags from command tag words =
    heard_value
    (record {
      command = command;
      transmit_command = from;
      tag = tag;
      flags = flags;
      count = length words;
      words = words ++ replicate (32 - length words) 0;
    })

-- a message without flags
abbrev pub heard : ℕ → ℕ → List ℕ → Heard
heard = marked 0 0

pub record Case : Type 0 where
  pub ram : List Write
  pub room : ℕ
  pub messages : List Heard
  pub places : List ℕ
  pub look : List ℕ

unfoldable pub start_of : Case → State
start_of c = state_of (apply_writes c.ram plain_ram) (replicate c.room 0) nothing_remembered

-- one order of a case: words of RAM at the places to look at; for each message its number, what it sends and its
-- interrupt word; and what is remembered
pub record Order : Type 0 where
  pub words : List ℕ
  pub numbers : List ℕ
  pub sends : List (List ℕ)
  pub interrupts : List ℕ
  pub remembered : Remembered

unfoldable pub order_of : List ℕ → State → List Effect → Order
order_of look x es =
    record {
      words = map (λ a. get_or x.ram a 0) look;
      numbers = map (λ e. e.answer.number) es;
      sends = map (λ e. e.sends) es;
      interrupts = map (λ e. e.answer.interrupt) es;
      remembered = x.remembered;
    }

-- what demand 3 says of the new order: words of the stack's block, from place 0 on; for each message what it sends and
-- its interrupt word; and what is remembered
pub record Said : Type 0 where
  pub stack : List ℕ
  pub sends : List (List ℕ)
  pub interrupts : List ℕ
  pub remembered : Remembered

unfoldable pub said_of : (ℕ → ℕ) → List Effect → Remembered → Said
said_of stack es remembered =
    record {
      stack = map stack (0 ∷ 1 ∷ 2 ∷ 3 ∷ 4 ∷ 5 ∷ 6 ∷ 7 ∷ 252 ∷ 253 ∷ 254 ∷ 255 ∷ []);
      sends = map (λ e. e.sends) es;
      interrupts = map (λ e. e.answer.interrupt) es;
      remembered = remembered;
    }

-- a case shows whether demand 3 speaks of it, both orders, and what demand 3 says
pub record Seen : Type 0 where
  pub asks : Bool
  pub old : Order
  pub new : Order
  pub said : Said

unfoldable pub seen : Case → Seen
seen c =
    record {
      asks = asked bench (start_of c) c.messages c.places;
      old = order_of c.look (run bench c.messages (start_of c)) (effects bench c.messages (start_of c));
      new =
          order_of c.look (run bench (exchange_all c.places c.messages) (start_of c))
          (effects bench (exchange_all c.places c.messages) (start_of c));
      said =
          said_of (stack_after bench (start_of c) c.messages c.places) (kept_after bench (start_of c) c.messages c.places)
          (remembered_after bench (start_of c) c.messages c.places);
    }

-- ---- allowed

-- two receives into windows that don't meet, 0480-04FF and 0500-051F; the second has a word too few. Their descriptors
-- change places on the stack, and so does what is remembered
abbrev pub two_receives : Case
two_receives =
    record {
      ram = put 0x143 0x4FE ∷ put 0x1A3 0x20 ∷ put 0x144 0x500 ∷ [];
      room = 33;
      messages = heard 0x2864 7 (1 ∷ 2 ∷ 3 ∷ 4 ∷ []) ∷ heard 0x2883 8 (5 ∷ 6 ∷ []) ∷ [];
      places = 0 ∷ [];
      look = 0 ∷ 1 ∷ 2 ∷ 3 ∷ 4 ∷ 5 ∷ 6 ∷ 7 ∷ 0x100 ∷ 0x143 ∷ 0x4FE ∷ 0x480 ∷ 0x500 ∷ [];
    }

-- two transmits whose windows meet, and that both only send; the stack wraps after the first of the two, whichever it
-- is
abbrev pub two_transmits : Case
two_transmits =
    record {
      ram = put 0x100 0xFC ∷ put 0x163 0x480 ∷ put 0x1A3 0x400 ∷ put 0x164 0x481 ∷ put 0x480 11 ∷ put 0x481 12 ∷ put 0x482 13 ∷ [];
      room = 33;
      messages = heard 0x2C62 7 [] ∷ heard 0x2C82 8 [] ∷ [];
      places = 0 ∷ [];
      look = 0xFC ∷ 0xFD ∷ 0xFE ∷ 0xFF ∷ 0 ∷ 1 ∷ 2 ∷ 3 ∷ 0x100 ∷ 0x163 ∷ [];
    }

-- "Demand 3 reads over the widened records." Two RT-to-RT transfers into windows that don't meet; the second's
-- transmitter gave no status
abbrev pub two_transfers : Case
two_transfers =
    record {
      ram = put 0x143 0x4FE ∷ put 0x1A3 0x20 ∷ put 0x144 0x500 ∷ [];
      room = 33;
      messages = marked 8 0x1443 0x2864 7 (1 ∷ 2 ∷ 3 ∷ 4 ∷ []) ∷ marked 24 0x1443 0x2883 8 [] ∷ [];
      places = 0 ∷ [];
      look = 0 ∷ 1 ∷ 2 ∷ 3 ∷ 4 ∷ 5 ∷ 6 ∷ 7 ∷ 0x100 ∷ 0x143 ∷ 0x4FE ∷ 0x480 ∷ 0x500 ∷ [];
    }

-- ---- not allowed, each for one condition

-- "different cells": two transmits from one circular cell; each sends what the pointer has come to
abbrev pub one_cell : Case
one_cell =
    record {
      ram = put 0x163 0x480 ∷ put 0x1A3 0x400 ∷ put 0x480 11 ∷ put 0x481 12 ∷ put 0x482 13 ∷ [];
      room = 33;
      messages = heard 0x2C61 7 [] ∷ heard 0x2C62 8 [] ∷ [];
      places = 0 ∷ [];
      look = 0x163 ∷ [];
    }

-- "windows don't meet": a transmit from the window that a receive writes
abbrev pub meeting : Case
meeting =
    record {
      ram = put 0x143 0x480 ∷ put 0x164 0x480 ∷ [];
      room = 33;
      messages = heard 0x2861 7 (5 ∷ []) ∷ heard 0x2C81 8 [] ∷ [];
      places = 0 ∷ [];
      look = 0x480 ∷ [];
    }

-- the second of two exchanges, in the list as it stands then: it would exchange two transmits from one cell
abbrev pub later : Case
later =
    record {
      ram = put 0x163 0x480 ∷ put 0x1A3 0x400 ∷ put 0x480 11 ∷ put 0x481 12 ∷ put 0x482 13 ∷ [];
      room = 33;
      messages = heard 0x2C61 7 [] ∷ heard 0x2C81 8 [] ∷ heard 0x2C62 9 [] ∷ [];
      places = 0 ∷ 1 ∷ [];
      look = 0x163 ∷ [];
    }

-- "the whole-area check passes": subaddress 4's window lies in the stack, and its message is refused
abbrev pub unsound : Case
unsound =
    record {
      ram = put 0x144 0x80 ∷ [];
      room = 33;
      messages = heard 0x2861 7 (5 ∷ []) ∷ heard 0x2881 8 (6 ∷ []) ∷ [];
      places = 0 ∷ [];
      look = 0x100 ∷ 0x400 ∷ 0x80 ∷ [];
    }

-- "with 33 reply words"
abbrev pub narrow : Case
narrow =
    record {
      ram = put 0x144 0x500 ∷ [];
      room = 32;
      messages = heard 0x2861 7 (5 ∷ []) ∷ heard 0x2881 8 (6 ∷ []) ∷ [];
      places = 0 ∷ [];
      look = 0x100 ∷ [];
    }

-- "data messages": subaddress 0 is refused
abbrev pub mode_command : Case
mode_command =
    record {
      ram = put 0x140 0x500 ∷ [];
      room = 33;
      messages = heard 0x2861 7 (5 ∷ []) ∷ heard 0x2801 8 (6 ∷ []) ∷ [];
      places = 0 ∷ [];
      look = 0x100 ∷ [];
    }

-- "for this terminal": address 6 is refused
abbrev pub elsewhere : Case
elsewhere =
    record {
      ram = put 0x144 0x500 ∷ [];
      room = 33;
      messages = heard 0x2861 7 (5 ∷ []) ∷ heard 0x3081 8 (6 ∷ []) ∷ [];
      places = 0 ∷ [];
      look = 0x100 ∷ [];
    }

-- "well-formed": 34 words seen are refused
abbrev pub broken : Case
broken =
    record {
      ram = put 0x144 0x500 ∷ [];
      room = 33;
      messages =
          heard 0x2861 7 (5 ∷ [])
          ∷ heard_value (record { command = 0x2881; transmit_command = 0; tag = 8; flags = 0; count = 34; words = replicate 32 6 })
          ∷ [];
      places = 0 ∷ [];
      look = 0x100 ∷ [];
    }

abbrev pub cases : List Case
cases =
    two_receives ∷ two_transmits ∷ two_transfers ∷ one_cell ∷ meeting ∷ later ∷ unsound ∷ narrow ∷ mode_command ∷ elsewhere ∷ broken ∷ []
