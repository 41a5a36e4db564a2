-- A clean message: it has no fault, nothing is withheld of it, and all its words are stored or sent.
use Prim.Native.Nat.{◌/◌, ◌%◌, ◌<◌, min}
use native.Mathlib.Nat.{min-eq_right}
use native.Mathlib.Omega.{arith}
use mathlib.Core.Path.{◌≡◌, ◌∙◌}
use mathlib.Core.Logic.{⊎_elim}
use mathlib.Core.Bool.{true, false, not, ◌||◌}
use lib.Dec.{leb, eqb}
use borrow.Author.Tests.{leb-false, eqb-true, eq-eqb, ne_eqb, not-false}
use Rattle.words.specs.declared.settings.Settings.{Settings}
use Rattle.words.specs.Command.{transmits, word_count}
use Rattle.words.proofs.Basics.{yes_or_no, or_left, or_right}
use Rattle.records.specs.declared.value.Record.{Record}
use Rattle.records.specs.Value.{has_wrong_sync, has_invalid_word}
use Rattle.records.specs.Transfer.{transfer_fails}
use Rattle.records.proofs.Before.{plain}
use Rattle.faults.specs.Fault.{expected_words, faults_of, faults_for, any_fault}
use Rattle.lookup.specs.declared.target.Target.{Target}
use Rattle.plan.specs.Act.{withheld, words_stored, words_sent, act_with, act_of}
use Rattle.plan.specs.Clean.{is_unclean, clean_act}

-- the parts of what is not odd
record Clean (t : Target) (v : Record) : Type 0 where
  illegal : t.illegal ≡ false
  busy : t.busy ≡ false
  broadcast : t.broadcast ≡ false
  flags : v.flags < 2
  count : v.count ≡ expected_words v.command

clean_of : (t : Target) (v : Record) → is_unclean t.illegal t.busy t.broadcast v.flags (not (eqb v.count (expected_words v.command))) ≡ false → Clean t v
unfolding is_unclean
clean_of t v e =
    let high = leb 2 v.flags in
    let wrong = not (eqb v.count (expected_words v.command)) in
    let first = or_left (t.illegal || t.busy) (t.broadcast || (high || wrong)) e in
    let second = or_right (t.illegal || t.busy) (t.broadcast || (high || wrong)) e in
    let third = or_right t.broadcast (high || wrong) second in
    record {
      illegal = or_left t.illegal t.busy first;
      busy = or_right t.illegal t.busy first;
      broadcast = or_left t.broadcast (high || wrong) second;
      flags = leb-false 2 v.flags (or_left high wrong third);
      count = eqb-true v.count _ (not-false _ (or_right high wrong third));
    }

no_faults : (t : Target) (v : Record) → Clean t v → faults_for t.broadcast v ≡ (clean_act v.command).faults
unfolding faults_for faults_of transfer_fails clean_act
no_faults t v c =
    let p = plain v (omega (arith, c.flags)) in
    let sync : has_wrong_sync v ≡ false = ne_eqb (v.flags / 2 % 2) 1 (λ e. omega (arith, c.flags)) in
    let invalid : has_invalid_word v ≡ false = ne_eqb (v.flags / 4 % 2) 1 (λ e. omega (arith, c.flags)) in
    simp (c.broadcast, eq-eqb v.count _ c.count, sync, invalid, p.status, p.gap, p.second)

clean_act_lem : (s : Settings) (t : Target) (v : Record) → Clean t v → act_of s t v ≡ clean_act v.command
unfolding act_of act_with words_stored words_sent withheld any_fault expected_words clean_act
clean_act_lem s t v c =
    rw (no_faults t v c)
    (⊎_elim
    (λ (y : transmits v.command ≡ true). simp (y, c.illegal, c.busy))
    (λ (n : transmits v.command ≡ false).
    let all : v.count ≡ word_count v.command = c.count ∙ rw n in
    let heard : min v.count (word_count v.command) ≡ word_count v.command = min-eq_right (omega (arith, all)) in
    simp (n, c.illegal, c.busy, heard))
    (yes_or_no (transmits v.command)))

-- the same, by the code's test
pub not_unclean :
    (s : Settings) (t : Target) (v : Record) →
    is_unclean t.illegal t.busy t.broadcast v.flags (not (eqb v.count (expected_words v.command))) ≡ false →
    act_of s t v ≡ clean_act v.command
not_unclean s t v e = clean_act_lem s t v (clean_of t v e)
