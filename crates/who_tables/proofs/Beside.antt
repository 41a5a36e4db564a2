-- A table holds at each address the word for what was written there last, and keeps its word where no write names the
-- address.
use Prim.Native.Nat.{ℕ, ◌<◌}
use mathlib.Core.Path.{◌≡◌}
use mathlib.Core.List.{List}
use lib.ListN.{length, get_or}
use Rattle.words.specs.declared.settings.Settings.{Settings}
use Rattle.memory.specs.State.{State}
use Rattle.memory.specs.Writes.{apply_writes}
use Rattle.writes.specs.declared.part.Part.{Part}
use Rattle.writes.specs.Asked.{Planned, planned}
use Rattle.message.specs.Heard.{Heard}
use Rattle.who_origin.specs.Origin.{last_said}
use Rattle.who_origin.proofs.Last.{put_last}
use Rattle.who.specs.Next.{list_in}
use Rattle.who.proofs.Listed.{asked_in}
use Rattle.who_tables.specs.Table.{marking}

pub table_said :
    (f : Part → ℕ) (s : Settings) (h : Heard) (x : State) (a : ℕ) (t : List ℕ) →
    a < length t →
    get_or (apply_writes (list_in (marking f) s h x) t) a 0 ≡ last_said (λ w. f w.part) a (list_in planned s h x) (get_or t a 0)
table_said f s h x a t l =
    rw (asked_in (marking f) s h x) (put_last (λ (w : Planned). f w.part) a (list_in planned s h x) t l)
