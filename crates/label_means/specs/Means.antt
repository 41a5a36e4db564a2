-- What the printed label of document 02, request 1, means for a message: an accepted message stores no word in the
-- window of another cell that is read and sound, unless that cell's label names the message's cell, marked as able to
-- write.
use Rattle.std.specs.Prelude.{ℕ, ◌+◌, ◌≤◌, ◌<◌, ◌≡◌, true, List, get_or}
use Rattle.words.specs.declared.settings.Settings.{Settings}
use Rattle.memory.specs.State.{State}
use Rattle.windows.specs.Window.{place_of}
use Rattle.label_spans.specs.Span.{window_numbered}
use Rattle.label.specs.Label.{takes_part, no_sharer, cell_label}
use Rattle.message.specs.Heard.{Heard}
use Rattle.message.specs.Tests.{refusal_for}
use Rattle.message.specs.Message.{plan_for}

-- the message is accepted, and one of the words that it stores goes to address a
pub record StoresAt (s : Settings) (h : Heard) (x : State) (a : ℕ) : Type 0 where
  pub accepted : refusal_for s h x ≡ 0
  pub word : ℕ
  pub stored : word < (plan_for s h.value x).deed.stored
  pub there : place_of (plan_for s h.value x).deed.window word ≡ a

-- the address lies in the window of the cell with this number
pub record InWindow (ram : List ℕ) (s : Settings) (cell a : ℕ) : Type 0 where
  pub from : (window_numbered ram s cell).start ≤ a
  pub below : a < (window_numbered ram s cell).start + (window_numbered ram s cell).size

-- the label of a cell names another one, "able to write"
pub record NamesWriter (ram : List ℕ) (s : Settings) (cell other : ℕ) : Type 0 where
  pub place : ℕ
  pub listed : place < (cell_label ram s cell).count
  pub named : (get_or (cell_label ram s cell).cells place no_sharer).cell ≡ other
  pub writes : (get_or (cell_label ram s cell).cells place no_sharer).writes ≡ true

-- for any RAM, settings and message
abbrev pub LabelMeans : Type 0
LabelMeans =
    (s : Settings) (h : Heard) (x : State) (a cell : ℕ) →
    StoresAt s h x a →
    takes_part x.ram s cell ≡ true →
    InWindow x.ram s cell a →
    ((plan_for s h.value x).deed.cell ≡ cell → ⊥) →
    NamesWriter x.ram s cell (plan_for s h.value x).deed.cell
