-- Words copied along a window: from its pointer on, each at its place.
use Rattle.std.specs.Prelude.{ℕ, ◌+◌, List, get_or}
use Rattle.windows.specs.declared.window.Window.{Window}
use Rattle.windows.specs.Window.{place_of}
use Rattle.memory.specs.Rows.{row}
use Rattle.memory.specs.Writes.{Write, writes_to}
use Rattle.writes.specs.declared.part.Part.{Part}
use Rattle.writes.specs.declared.part.Part.TheVariants.{Data}
use Rattle.writes.specs.Asked.{as_write}

-- rule 3: "from the lookup pointer on, at rising addresses, wrapping inside a circular window"
abbrev pub data_list : {A : Type 0} → (ℕ → ℕ → Part → A) → Window → List ℕ → ℕ → List A
data_list ask w words n = row (λ k. ask (place_of w k) (get_or words k 0) (Data (k + 1))) n

abbrev pub data_writes : Window → List ℕ → ℕ → List Write
data_writes w words n = data_list as_write w words n

-- rule 4: the data words, "read the same way", from place 1 of the reply on
abbrev pub sent_writes : List ℕ → Window → ℕ → List Write
sent_writes ram w n = writes_to (λ k. k + 1) (λ k. get_or ram (place_of w k) 0) n
