-- At most 32 words are stored.
use Prim.Native.Nat.{◌≤◌}
use native.Mathlib.Omega.{arith}
use native.Mathlib.Nat.{min-le_right}
use mathlib.Core.Logic.{⊎_elim}
use mathlib.Core.Bool.{◌||◌}
use Rattle.records.specs.declared.value.Record.{Record}
use Rattle.words.specs.declared.settings.Settings.{Settings}
use Rattle.words.specs.Command.{transmits, word_count}
use Rattle.words.proofs.Basics.{yes_or_no}
use Rattle.words.proofs.Commands.{word_count_to}
use Rattle.lookup.specs.declared.target.Target.{Target}
use Rattle.plan.specs.Act.{withheld, words_stored, act_with, act_of}
use Rattle.plan.specs.Deed.{deed_with, deed_of}

stored_fits : (s : Settings) (t : Target) (v : Record) → words_stored s t v ≤ 32
unfolding words_stored
stored_fits s t v =
    ⊎_elim
    (λ none. rw none (omega arith))
    (λ some. rw some (omega (arith, min-le_right v.count (word_count v.command), word_count_to v.command)))
    (yes_or_no (transmits v.command || withheld s t))

pub deed_stored : (s : Settings) (t : Target) (v : Record) → (deed_of s t v).stored ≤ 32
unfolding deed_of deed_with act_of act_with
deed_stored s t v = stored_fits s t v
