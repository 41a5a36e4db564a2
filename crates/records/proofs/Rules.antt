-- The rules of a transfer, one by one.
use mathlib.Core.Path.{◌≡◌}
use mathlib.Core.Logic.{◌↔◌, ⊎_elim}
use mathlib.Core.Bool.{true, false, not, ◌&&◌, ◌||◌}
use lib.Dec.{eqb}
use borrow.Author.Tests.{eqb-true, eq-eqb, not-false}
use Rattle.words.specs.Command.{transmits}
use Rattle.std.proofs.lemmas.Bool.{cases_Bool}
use Rattle.words.proofs.Basics.{or_left, or_right}
use Rattle.records.specs.declared.value.Record.{Record}
use Rattle.records.specs.Transfer.{is_transfer, transfer_fails, breaks_transfer}

pub record KeepsTransfer (v : Record) : Type 0 where
  pub receives : is_transfer v ≡ true → transmits v.command ≡ false
  pub marked : is_transfer v ≡ false → transfer_fails v ≡ false
  pub bytes : is_transfer v ≡ false → v.transmit_command ≡ 0
  pub none : transfer_fails v ≡ true → v.count ≡ 0

pub kept_of : (v : Record) → breaks_transfer v ≡ false → KeepsTransfer v
unfolding breaks_transfer
kept_of v b =
    let unmarked = transfer_fails v || not (eqb v.transmit_command 0) in
    let counted = transfer_fails v && not (eqb v.count 0) in
    let one = or_left (is_transfer v && transmits v.command) ((not (is_transfer v) && unmarked) || counted) b in
    let others = or_right (is_transfer v && transmits v.command) ((not (is_transfer v) && unmarked) || counted) b in
    let two = or_left (not (is_transfer v) && unmarked) counted others in
    let three = or_right (not (is_transfer v) && unmarked) counted others in
    record {
      receives = λ t. rw t at one;
      marked = λ t. or_left (transfer_fails v) (not (eqb v.transmit_command 0)) (rw t at two);
      bytes =
          λ t.
          eqb-true v.transmit_command 0
          (not-false _ (or_right (transfer_fails v) (not (eqb v.transmit_command 0)) (rw t at two)));
      none = λ f. eqb-true v.count 0 (not-false _ (rw f at three));
    }

pub unbroken_of : (v : Record) → KeepsTransfer v → breaks_transfer v ≡ false
unfolding breaks_transfer
unbroken_of v h =
    ⊎_elim
    (λ (t : is_transfer v ≡ true).
    ⊎_elim
    (λ (f : transfer_fails v ≡ true). rw (h.receives t, eq-eqb v.count 0 (h.none f), t, f))
    (λ (f : transfer_fails v ≡ false). rw (h.receives t, t, f))
    (cases_Bool (transfer_fails v)))
    (λ (t : is_transfer v ≡ false). rw (t, h.marked t, eq-eqb v.transmit_command 0 (h.bytes t)))
    (cases_Bool (is_transfer v))

-- a value breaks none of the rules exactly when it keeps each
pub transfer_rules : (v : Record) → (breaks_transfer v ≡ false) ↔ KeepsTransfer v
transfer_rules v = (kept_of v, unbroken_of v)
