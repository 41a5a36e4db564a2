-- A transfer that fails is no valid message; it stores and sends nothing, so the pointer stays where it is.
use Prim.Native.Nat.{ℕ, min}
use native.Mathlib.Omega.{arith}
use mathlib.Core.Path.{◌≡◌, refl}
use mathlib.Core.Bool.{Bool, true, false, cond, ◌&&◌, ◌||◌, and-false}
use Rattle.words.specs.declared.settings.Settings.{Settings}
use Rattle.words.specs.Command.{transmits, word_count}
use Rattle.records.specs.declared.value.Record.{Record}
use Rattle.records.specs.Transfer.{transfer_fails}
use Rattle.faults.specs.Fault.{expected_words, faults_for}
use Rattle.faults.proofs.Failing.{fails_at_fault}
use Rattle.lookup.specs.declared.target.Target.{Target}
use Rattle.plan.specs.Act.{withheld, words_stored, words_sent, act_with, act_of}
use Rattle.plan.specs.Motion.{may_move, moves, motion_with, motion_of}

pub fails_invalid : (s : Settings) (t : Target) (v : Record) → transfer_fails v ≡ true → (act_of s t v).valid ≡ false
unfolding act_of act_with faults_for
fails_invalid s t v f =
    rw (fails_at_fault (expected_words v.command) (t.broadcast && transmits v.command) v f)

either_way : (b : Bool) (n : ℕ) → cond b n n ≡ n
either_way true n = refl
either_way false n = refl

stores_none : (s : Settings) (t : Target) (v : Record) → v.count ≡ 0 → words_stored s t v ≡ 0
unfolding words_stored
stores_none s t v z =
    let none : min 0 (word_count v.command) ≡ 0 = omega arith in
    rw (z, none) (either_way (transmits v.command || withheld s t) 0)

sends_none : (t : Target) (command : ℕ) → words_sent t false command ≡ 0
unfolding words_sent
sends_none t command = rw (and-false (transmits command))

-- "or when the count is not 0 with flags 16 to 64": such a record has no count, so no word is moved
pub fails_moves_none :
    (s : Settings) (t : Target) (v : Record) → v.count ≡ 0 → transfer_fails v ≡ true → (act_of s t v).k ≡ 0
unfolding act_of act_with faults_for
fails_moves_none s t v z f =
    rw (
      fails_at_fault (expected_words v.command) (t.broadcast && transmits v.command) v f,
      stores_none s t v z,
      sends_none t v.command,
    )
    (either_way (transmits v.command) 0)

pub fails_keeps_pointer :
    (s : Settings) (t : Target) (v : Record) → v.count ≡ 0 → transfer_fails v ≡ true →
    (motion_of s t (act_of s t v)).after ≡ t.cell.pointer
unfolding motion_of motion_with moves
fails_keeps_pointer s t v z f =
    rw (
      fails_moves_none s t v z f,
      and-false (may_move t.cell.scheme (act_of s t v).valid s.overwrite_invalid),
    )
