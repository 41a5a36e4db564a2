-- Replaying a trace with the question "Who put this word here".
use Rattle.std.specs.Prelude.{ℕ, zero, suc, cond, List, [], ◌∷◌, ◌++◌, length, replicate, eqb}
use Rattle.words.specs.declared.settings.Settings.{Settings}
use Rattle.words.specs.declared.remembered.Remembered.{Remembered}
use Rattle.words.specs.Remembered.{nothing_remembered}
use Rattle.memory.specs.State.{State, state_of}
use Rattle.message.specs.Heard.{Heard, heard_bytes}
use Rattle.message.specs.Message.{step}
use Rattle.trace.specs.Walk.{record_at, whole_records, next_number}
use Rattle.who_origin.specs.declared.origin.Who.TheVariants.{Refused, AsInImage}
use Rattle.who.specs.declared.standing.Standing.{Standing}
use Rattle.who.specs.Tests.{who_refusal}
use Rattle.who.specs.Next.{who_next}
use Rattle.who.specs.Values.{values_of}

-- the first n records of a trace, as they are heard
unfoldable pub heard_to : List ℕ → ℕ → List Heard
heard_to trace zero = []
heard_to trace (suc n) = heard_to trace n ++ (heard_bytes (record_at trace n) ∷ [])

-- all whole records; a short tail is none
unfoldable pub heard_in : List ℕ → List Heard
heard_in trace = heard_to trace (whole_records trace)

-- what stands after some records: RAM, what is remembered, the number of the last record, the answer so far
pub record Replay : Type 0 where
  pub ram : List ℕ
  pub at : Standing

abbrev pub replay_of : List ℕ → Standing → Replay
replay_of ram at = record { ram = ram; at = at }

-- the terminal that takes a record, with room for a reply
abbrev pub terminal_of : List ℕ → Remembered → State
terminal_of ram remembered = state_of ram (replicate 33 0) remembered

-- the terminal that takes the next record
abbrev pub terminal_in : Replay → State
terminal_in w = terminal_of w.ram w.at.remembered

-- one record more
unfoldable pub replay_record : Settings → ℕ → Heard → Replay → Replay
replay_record s a h w =
    record {
      ram = (step s h (terminal_in w)).ram;
      at =
          record {
            remembered = (step s h (terminal_in w)).remembered;
            number = next_number w.at.number;
            who = who_next s a h (terminal_in w) (next_number w.at.number) w.at.who;
          };
    }

-- one record after the other
unfoldable pub replay : Settings → ℕ → List Heard → Replay → Replay
replay s a [] w = w
replay s a (h ∷ hs) w = replay s a hs (replay_record s a h w)

-- a refusal is the answer, and all else is as it was
unfoldable pub refused_at : ℕ → Replay → Replay
refused_at number w =
    record {
      ram = w.ram;
      at = record { remembered = w.at.remembered; number = w.at.number; who = Refused number };
    }

-- a part of a trace: an answer that is a refusal already stays the answer, whatever is given, and all else is as it was
unfoldable pub gone_on : Settings → ℕ → List Heard → Replay → Replay
gone_on s a hs w =
    cond (eqb (values_of w.at.who).number 0)
    (cond (eqb (who_refusal (length w.ram) s a) 0) (replay s a hs w) (refused_at (who_refusal (length w.ram) s a) w))
    w

-- a trace that comes in refills of whole records, and then a rest
unfoldable pub gone_through : Settings → ℕ → List (List ℕ) → List ℕ → Replay → Replay
gone_through s a [] rest w = gone_on s a (heard_in rest) w
gone_through s a (full ∷ fulls) rest w = gone_through s a fulls rest (gone_on s a (heard_in full) w)

-- before the first record: nothing is remembered, and every word is "as in the image"
unfoldable pub beginning : Standing
beginning = record { remembered = nothing_remembered; number = 0; who = AsInImage }

-- a whole trace, from a starting image
unfoldable pub asked : Settings → ℕ → List Heard → List ℕ → Replay
asked s a hs image = gone_on s a hs (replay_of image beginning)
