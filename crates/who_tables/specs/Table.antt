-- The answer for every address at once: two tables beside RAM, which a replay writes at the same places, in the same
-- order.
use Rattle.std.specs.Prelude.{ℕ, cond, List, [], ◌∷◌, length, get_or, replicate, eqb}
use Rattle.words.specs.declared.settings.Settings.{Settings}
use Rattle.words.specs.Remembered.{nothing_remembered}
use Rattle.records.specs.Value.{zero_value}
use Rattle.memory.specs.State.{State}
use Rattle.memory.specs.Writes.{Write, apply_writes}
use Rattle.plan.specs.declared.deed.Deed.{Deed}
use Rattle.plan.specs.declared.entry.Entry.{Entry}
use Rattle.plan.specs.declared.plan.Plan.{Plan}
use Rattle.writes.specs.declared.part.Part.{Part}
use Rattle.writes.specs.Copies.{data_list}
use Rattle.writes.specs.Writes.{pointer_list, entry_list, list_of}
use Rattle.message.specs.Heard.{Heard}
use Rattle.message.specs.Message.{plan_for, step}
use Rattle.trace.specs.Walk.{next_number}
use Rattle.who_origin.specs.declared.origin.Who.{Who}
use Rattle.who_origin.specs.declared.origin.Who.TheVariants.{Refused}
use Rattle.who_tables.specs.declared.table.Filling.{Filling}
use Rattle.who.specs.Next.{list_in}
use Rattle.who.specs.Replay.{terminal_of}
use Rattle.who_tables.specs.Mark.{mark_of, entry_of}
use Rattle.who_tables.specs.Tests.{fill_refusal, entry_refusal}

-- what a table of numbers and one of marks say of an address
unfoldable pub entry_at : List ℕ → List ℕ → ℕ → Who
entry_at numbers marks a =
    cond (eqb (entry_refusal numbers marks a) 0) (entry_of (get_or numbers a 0) (get_or marks a 0))
    (Refused (entry_refusal numbers marks a))

-- what a table takes of a write: its place, and a word for what it is
abbrev pub marking : (Part → ℕ) → ℕ → ℕ → Part → Write
marking f at word part = record { at = at; word = f part }

-- a plan's list of writes, asked for that; no word that is written matters, so any record's will do
abbrev pub mark_writes : (Part → ℕ) → Settings → Plan → List Write
mark_writes f s p = list_of (marking f) s p zero_value

-- and its parts, as the code takes them
abbrev pub data_marks : (Part → ℕ) → Deed → List Write
data_marks f d = data_list (marking f) d.window [] d.stored

abbrev pub pointer_marks : (Part → ℕ) → Settings → Deed → List Write
pointer_marks f s d = pointer_list (marking f) s d

abbrev pub stack_marks : (Part → ℕ) → Entry → List Write
stack_marks f e = entry_list (marking f) e []

-- what stands after some records: RAM, for each address the number of the last record that wrote it and its mark, where
-- the replay stands
pub record Tables : Type 0 where
  pub ram : List ℕ
  pub numbers : List ℕ
  pub marks : List ℕ
  pub at : Filling

abbrev pub tables_of : List ℕ → List ℕ → List ℕ → Filling → Tables
tables_of ram numbers marks at = record { ram = ram; numbers = numbers; marks = marks; at = at }

abbrev pub terminal_at : Tables → State
terminal_at t = terminal_of t.ram t.at.remembered

-- one record more
unfoldable pub fill_record : Settings → Heard → Tables → Tables
fill_record s h t =
    record {
      ram = (step s h (terminal_at t)).ram;
      numbers = apply_writes (list_in (marking (λ part. next_number t.at.number)) s h (terminal_at t)) t.numbers;
      marks =
          apply_writes (list_in (marking (mark_of (plan_for s h.value (terminal_at t)).deed.cell)) s h (terminal_at t)) t.marks;
      at = record { remembered = (step s h (terminal_at t)).remembered; number = next_number t.at.number };
    }

unfoldable pub fill_all : Settings → List Heard → Tables → Tables
fill_all s [] t = t
fill_all s (h ∷ hs) t = fill_all s hs (fill_record s h t)

-- what refuses a part of a trace, or 0
abbrev pub refusal_of : Settings → Tables → ℕ
refusal_of s t = fill_refusal (length t.ram) (length t.numbers) (length t.marks) s

-- a part of a trace; a refusal changes nothing, and so leaves no trace in what follows
unfoldable pub filled_with : Settings → List Heard → Tables → Tables
filled_with s hs t = cond (eqb (refusal_of s t) 0) (fill_all s hs t) t

-- blank tables beside an image, before the first record
unfoldable pub blank_tables : List ℕ → Tables
blank_tables image =
    record {
      ram = image;
      numbers = replicate (length image) 0;
      marks = replicate (length image) 0;
      at = record { remembered = nothing_remembered; number = 0 };
    }
