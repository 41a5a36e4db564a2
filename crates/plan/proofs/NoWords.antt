-- A deed does not look at words: with other words it is the same.
use mathlib.Core.Path.{◌≡◌, refl}
use mathlib.Core.List.{List}
use Prim.Native.Nat.{ℕ}
use Rattle.words.specs.declared.settings.Settings.{Settings}
use Rattle.records.specs.declared.value.Record.{Record}
use Rattle.faults.specs.Fault.{faults_of, faults_for}
use Rattle.records.specs.Transfer.{transfer_fails}
use Rattle.lookup.specs.declared.target.Target.{Target}
use Rattle.plan.specs.Act.{words_stored, act_with, act_of}
use Rattle.plan.specs.Deed.{deed_with, deed_of}

-- a record with other words
abbrev pub with_words : Record → List ℕ → Record
with_words v words = record { command = v.command; tag = v.tag; flags = v.flags; count = v.count; words = words; transmit_command = v.transmit_command }

pub deed_no_words : (s : Settings) (t : Target) (v : Record) (words : List ℕ) → deed_of s t (with_words v words) ≡ deed_of s t v
unfolding deed_of deed_with act_of act_with words_stored faults_for faults_of transfer_fails
deed_no_words s t v words = refl
