-- Any fault, in three parts: a flag tells one, the count is wrong, or the contents are. That a told fault hides a wrong
-- count makes no difference to it.
use mathlib.Core.Path.{◌≡◌, refl}
use mathlib.Core.Bool.{Bool, true, false, not, ◌&&◌, ◌||◌, and-true, or-true, or-false}
use lib.Dec.{eqb}
use Rattle.records.specs.declared.value.Record.{Record}
use Rattle.records.specs.Transfer.{has_no_status, has_wrong_gap, has_bad_second, transfer_fails}
use Rattle.records.specs.Value.{has_wrong_sync, has_invalid_word}
use Rattle.words.specs.Command.{transmits}
use Rattle.faults.specs.Fault.{expected_words, told_fault, faults_of, faults_for, any_fault}

parts : (a b w c : Bool) → ((a || ((w && not (a || b)) || c)) || b) ≡ ((a || b) || (w || c))
parts true b w c = refl
parts false true w c = simp or-true
parts false false w c = simp (and-true, or-false)

pub fault_parts :
    (broadcast : Bool) (v : Record) →
    any_fault (faults_for broadcast v)
    ≡ (told_fault v || (not (eqb v.count (expected_words v.command)) || (broadcast && transmits v.command)))
unfolding faults_for faults_of any_fault transfer_fails
fault_parts broadcast v =
    parts
    (has_wrong_sync v || has_invalid_word v)
    (has_no_status v || (has_wrong_gap v || has_bad_second v))
    (not (eqb v.count (expected_words v.command)))
    (broadcast && transmits v.command)
