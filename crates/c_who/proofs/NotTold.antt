-- A refused question about who put a word where it is leaves RAM as it was.
use Prim.Native.Nat.{ℕ}
use mathlib.Core.Path.{◌≡◌}
use mathlib.Core.List.{List}
use lib.ListN.{length}
use Rattle.words.specs.declared.settings.Settings.{Settings}
use Rattle.message.specs.Heard.{Heard}
use Rattle.who.specs.Tests.{who_refusal}
use Rattle.who.specs.Replay.{refused_at, asked}
use Rattle.who.proofs.Answers.{who_put_this_here}

pub who_refused :
    (s : Settings) (a : ℕ) (hs : List Heard) (ram : List ℕ) →
    (who_refusal (length ram) s a ≡ 0 → ⊥) →
    (asked s a hs ram).ram ≡ ram
unfolding refused_at
who_refused s a hs ram m = rw ((who_put_this_here s a hs ram).refused m)
