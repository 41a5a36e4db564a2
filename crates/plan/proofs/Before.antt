-- What a record that is no transfer reports: document 01's faults and document 01's block status.
use Prim.Native.Nat.{ℕ, ◌≤◌}
use mathlib.Core.Path.{◌≡◌}
use mathlib.Core.Bool.{Bool, true, false, not, ◌&&◌, ◌||◌, or-false}
use mathlib.Core.List.{[], ◌∷◌}
use lib.Dec.{eqb}
use Rattle.words.specs.declared.settings.Settings.{Settings}
use Rattle.words.specs.Bits.{word_of}
use Rattle.words.specs.Command.{transmits}
use Rattle.records.specs.declared.value.Record.{Record}
use Rattle.records.specs.Value.{on_bus_b, has_wrong_sync, has_invalid_word}
use Rattle.faults.specs.Fault.{expected_words, faults_for, any_fault}
use Rattle.records.proofs.Before.{plain}
use Rattle.faults.proofs.Before.{faults_before}
use Rattle.lookup.specs.declared.target.Target.{Target}
use Rattle.plan.specs.Act.{act_with, act_of}
use Rattle.plan.specs.Motion.{motion_of}
use Rattle.plan.specs.Deed.{deed_with, deed_of}
use Rattle.plan.specs.Report.{block_status}

-- rule 1 of document 01. "Count fault: count differs from expected and neither flag is set." "Contents fault: a
-- broadcast transmit."
abbrev pub old_count : Record → Bool
old_count v = not (eqb v.count (expected_words v.command)) && not (has_wrong_sync v || has_invalid_word v)

abbrev pub old_contents : Target → Record → Bool
old_contents t v = t.broadcast && transmits v.command

abbrev pub old_fault : Target → Record → Bool
old_fault t v = (has_wrong_sync v || has_invalid_word v) || (old_count v || old_contents t v)

-- "15 set; 13 bus B; 12 and 10 any fault; 7 rollover; 6 illegal; 5 count; 4 sync; 3 invalid word; 0 contents. Others
-- 0."
abbrev pub old_block_status : Target → Record → Bool → ℕ
old_block_status t v rollover =
    word_of
    (true
    ∷ false
    ∷ on_bus_b v
    ∷ old_fault t v
    ∷ false
    ∷ old_fault t v
    ∷ false
    ∷ false
    ∷ rollover
    ∷ t.illegal
    ∷ old_count v
    ∷ has_wrong_sync v
    ∷ has_invalid_word v
    ∷ false
    ∷ false
    ∷ old_contents t v
    ∷ [])

pub valid_before : (s : Settings) (t : Target) (v : Record) → v.flags ≤ 7 → (act_of s t v).valid ≡ not (old_fault t v)
unfolding act_of act_with faults_for any_fault
valid_before s t v h = simp (faults_before (expected_words v.command) (old_contents t v) v h, or-false)

pub block_status_before :
    (s : Settings) (t : Target) (v : Record) → v.flags ≤ 7 →
    (deed_of s t v).block_status ≡ old_block_status t v (motion_of s t (act_of s t v)).rollover
unfolding deed_of deed_with act_of act_with faults_for any_fault block_status
block_status_before s t v h =
    rw (faults_before (expected_words v.command) (old_contents t v) v h, (plain v h).transfer, or-false)
