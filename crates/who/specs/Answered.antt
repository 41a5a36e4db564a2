-- What the answer to "Who put this word here" says: request 10 on one page.
use Rattle.std.specs.Prelude.{ℕ, ◌+◌, ◌-◌, ◌%◌, ◌^◌, ◌≡◌, ◌↔◌, List, [], ◌∷◌, ◌++◌, length, get_or}
use Rattle.words.specs.declared.settings.Settings.{Settings}
use Rattle.words.specs.Remembered.{nothing_remembered}
use Rattle.memory.specs.State.{State}
use Rattle.writes.specs.declared.part.Part.TheVariants.{Data}
use Rattle.writes.specs.Asked.{planned}
use Rattle.message.specs.Heard.{Heard}
use Rattle.message.specs.Tests.{refusal_for}
use Rattle.message.specs.Message.{plan_for, step}
use Rattle.message.specs.Run.{run}
use Rattle.who_origin.specs.declared.origin.Origin.{Origin}
use Rattle.who_origin.specs.declared.origin.Who.TheVariants.{AsInImage, Written}
use Rattle.who.specs.Tests.{who_refusal}
use Rattle.who_origin.specs.Origin.{names_not, LastNaming}
use Rattle.who.specs.Next.{list_in}
use Rattle.who.specs.Values.{values_of}
use Rattle.who.specs.Replay.{terminal_of, replay_of, beginning, refused_at, asked}

-- the terminal with a starting image: nothing is remembered
abbrev pub terminal_with : List ℕ → State
terminal_with image = terminal_of image nothing_remembered

-- no record of the list writes there
abbrev pub none_writes : Settings → ℕ → State → List Heard → Type 0
none_writes s a x [] = Unit {0}
none_writes s a x (h ∷ hs) = names_not a (list_in planned s h x) × none_writes s a (step s h x) hs

-- The record that an answer names, among records that a terminal in the state x takes one after the other, n records
-- after the first.
pub record Named (s : Settings) (a : ℕ) (x : State) (n : ℕ) (hs : List Heard) (o : Origin) : Type 0 where
  pub earlier : List Heard
  pub it : Heard
  pub later : List Heard
  pub splits : hs ≡ earlier ++ (it ∷ later)
  -- its number is its place among all records, refused ones too, counted from 1, in 64 bits
  pub number : o.number ≡ (n + length earlier + 1) % 2 ^ 64
  -- it is accepted, and this is its cell
  pub accepted : refusal_for s it (run s earlier x) ≡ 0
  pub cell : o.cell ≡ (plan_for s it.value (run s earlier x)).deed.cell
  -- its "list of writes includes that address", and the last write there says what was written
  pub write : LastNaming a (list_in planned s it (run s earlier x))
  pub part : o.part ≡ write.it.part
  -- "Replay up to that record shows the word just written"
  pub shows : get_or (step s it (run s earlier x)).ram a 0 ≡ write.it.word
  -- which is, where it is a data word, the record's word at that place, counted from 1
  pub word : (k : ℕ) → o.part ≡ Data k → get_or (step s it (run s earlier x)).ram a 0 ≡ get_or it.value.words (k - 1) 0
  -- "and no later record writes there"
  pub nobody : none_writes s a (step s it (run s earlier x)) later
  -- so the word stands there to the end
  pub stays : get_or (run s hs x).ram a 0 ≡ get_or (step s it (run s earlier x)).ram a 0

-- The answer to the question about an address, asked of a starting image and a list of records.
pub record Answered (s : Settings) (a : ℕ) (hs : List Heard) (image : List ℕ) : Type 0 where
  -- "Refusals: 1, 3, then 12": the number is the answer, and nothing changes
  pub refused :
      (who_refusal (length image) s a ≡ 0 → ⊥) →
      asked s a hs image ≡ refused_at (who_refusal (length image) s a) (replay_of image beginning)
  -- so the answer's number is that of the first test that holds: "0 is done."
  pub number : (values_of (asked s a hs image).at.who).number ≡ who_refusal (length image) s a
  -- where none holds, lent RAM ends as the records leave it
  pub replayed : who_refusal (length image) s a ≡ 0 → (asked s a hs image).ram ≡ (run s hs (terminal_with image)).ram
  -- "the number of the last record whose list of writes includes that address, with its cell and its place in the
  -- message, or that it was a stack, pointer .. write"
  pub named :
      (o : Origin) →
      who_refusal (length image) s a ≡ 0 →
      (asked s a hs image).at.who ≡ Written o →
      Named s a (terminal_with image) 0 hs o
  -- "as in the image" exactly where no record writes there
  pub untouched :
      who_refusal (length image) s a ≡ 0 →
      ((asked s a hs image).at.who ≡ AsInImage) ↔ none_writes s a (terminal_with image) hs
  -- and then it ends with the image's word
  pub kept : none_writes s a (terminal_with image) hs → get_or (run s hs (terminal_with image)).ram a 0 ≡ get_or image a 0
