-- How many words a reply has: where no status is sent there are no data words.
use Prim.Native.Nat.{ℕ, ◌+◌}
use native.Mathlib.Omega.{arith}
use mathlib.Core.Path.{◌≡◌, refl}
use mathlib.Core.Logic.{⊎_elim}
use mathlib.Core.Bool.{Bool, true, false, not, cond, ◌&&◌, ◌||◌, true≢false}
use mathlib.Core.List.{List}
use lib.ListN.{length, length-map}
use Rattle.words.specs.declared.settings.Settings.{Settings}
use Rattle.words.specs.Bits.{bit_of}
use Rattle.words.specs.Command.{transmits, word_count}
use Rattle.words.proofs.Basics.{yes_or_no}
use Rattle.records.specs.declared.value.Record.{Record}
use Rattle.faults.specs.Fault.{any_fault, faults_for, faults_of}
use Rattle.lookup.specs.declared.target.Target.{Target}
use Rattle.plan.specs.Act.{words_sent, act_with, act_of}
use Rattle.plan.specs.Deed.{deed_with, deed_of}
use Rattle.writes.specs.Reply.{reply_writes, reply_words}
use Rattle.writes.proofs.Replied.{behind_length}

or_true : (a : Bool) → (a || true) ≡ true
or_true true = refl
or_true false = refl

-- "Contents fault: a broadcast transmit."
not_valid :
    (broadcast : Bool) (v : Record) →
    transmits v.command ≡ true →
    broadcast ≡ true →
    not (any_fault (faults_for broadcast v)) ≡ false
unfolding any_fault faults_for faults_of
not_valid broadcast v e b = simp (e, b, or_true)

silent :
    (transmit broadcast valid able : Bool) (n : ℕ) →
    (transmit ≡ true → broadcast ≡ true → valid ≡ false) →
    (valid && not broadcast) ≡ false →
    cond (transmit && (valid && able)) n 0 ≡ 0
silent false broadcast valid able n h e = refl
silent true broadcast false able n h e = refl
silent true false true able n h e = absurd (true≢false e)
silent true true true able n h e = absurd (true≢false (h refl refl))

-- so where no status is sent there are no data words
none_sent : (s : Settings) (t : Target) (v : Record) → (deed_of s t v).answered ≡ false → (deed_of s t v).sent ≡ 0
unfolding deed_of deed_with act_of act_with words_sent
none_sent s t v e =
    let valid = not (any_fault (faults_for t.broadcast v)) in
    silent (transmits v.command) t.broadcast valid (not t.illegal && not t.busy) (word_count v.command)
    (not_valid t.broadcast v)
    e

-- the words of a reply are the status, where it is sent, and the data words that the answer tells
pub words_told :
    (ram : List ℕ) (s : Settings) (t : Target) (v : Record) →
    length (reply_words ram (deed_of s t v)) ≡ bit_of (deed_of s t v).answered + (deed_of s t v).sent
unfolding reply_words reply_writes
words_told ram s t v =
    let d = deed_of s t v in
    ⊎_elim
    (λ (e : d.answered ≡ true).
    rw (e, length-map, behind_length) (omega arith))
    (λ (e : d.answered ≡ false). rw (e, none_sent s t v e))
    (yes_or_no d.answered)
