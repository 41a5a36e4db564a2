-- What a record meant before there were transfers: the records that are no transfers are those that document 01 takes.
use Prim.Native.Nat.{ℕ, ◌/◌, ◌%◌, ◌≤◌}
use native.Mathlib.Omega.{arith}
use mathlib.Core.Path.{◌≡◌}
use mathlib.Core.Bool.{Bool, true, false, not, ◌&&◌, and-true, or-false}
use lib.Dec.{leb, eqb}
use borrow.Author.Tests.{eqb-false, ne_eqb, leb-true, le-leb, not-true}
use Rattle.words.proofs.Basics.{and_left, and_right, or_left, or_right}
use Rattle.records.specs.declared.value.Record.{Record}
use Rattle.records.specs.Transfer.{is_transfer, has_no_status, has_wrong_gap, has_bad_second, transfer_fails, breaks_transfer}
use Rattle.records.specs.Value.{lasts_zero, keeps_layout}
use Rattle.records.proofs.Rules.{kept_of}

-- "(1 = bus B, 2 = wrong sync, 4 = invalid word; higher bits zero)"
pub record Plain (v : Record) : Type 0 where
  pub transfer : is_transfer v ≡ false
  pub status : has_no_status v ≡ false
  pub gap : has_wrong_gap v ≡ false
  pub second : has_bad_second v ≡ false

pub plain : (v : Record) → v.flags ≤ 7 → Plain v
plain v h =
    record {
      transfer = ne_eqb (v.flags / 8 % 2) 1 (λ e. omega arith);
      status = ne_eqb (v.flags / 16 % 2) 1 (λ e. omega arith);
      gap = ne_eqb (v.flags / 32 % 2) 1 (λ e. omega arith);
      second = ne_eqb (v.flags / 64 % 2) 1 (λ e. omega arith);
    }

-- document 01's layout: "2-3 zero", "higher bits zero", "Count is .. 0 to 33", "Words after the first min(count, 32)
-- are zero."
abbrev pub old_layout : Record → Bool
old_layout v = (leb v.flags 7 && leb v.count 33) && lasts_zero v.words v.count 32

-- the highest flag that there can be is off, so only the lower ones are left
without_64 : (n : ℕ) → n ≤ 127 → (n / 64 % 2 ≡ 1 → ⊥) → n ≤ 63
without_64 n h e = omega arith

without_32 : (n : ℕ) → n ≤ 63 → (n / 32 % 2 ≡ 1 → ⊥) → n ≤ 31
without_32 n h e = omega arith

without_16 : (n : ℕ) → n ≤ 31 → (n / 16 % 2 ≡ 1 → ⊥) → n ≤ 15
without_16 n h e = omega arith

without_8 : (n : ℕ) → n ≤ 15 → (n / 8 % 2 ≡ 1 → ⊥) → n ≤ 7
without_8 n h e = omega arith

-- the parts of what is kept where the record is no transfer
pub record NoTransfer (v : Record) : Type 0 where
  pub flags : v.flags ≤ 7
  pub bytes : v.transmit_command ≡ 0

pub no_transfer : (v : Record) → keeps_layout v ≡ true → is_transfer v ≡ false → NoTransfer v
unfolding keeps_layout transfer_fails
no_transfer v k t =
    let n = v.flags in
    let limits = leb v.flags 127 && leb v.count 33 in
    let head = and_left (limits && not (breaks_transfer v)) (lasts_zero v.words v.count 32) k in
    let high = leb-true v.flags 127 (and_left (leb v.flags 127) (leb v.count 33) (and_left limits _ head)) in
    let rules = kept_of v (not-true (breaks_transfer v) (and_right limits _ head)) in
    let fails = rules.marked t in
    let a = eqb-false (n / 16 % 2) 1 (or_left (has_no_status v) _ fails) in
    let b = eqb-false (n / 32 % 2) 1 (or_left (has_wrong_gap v) _ (or_right (has_no_status v) _ fails)) in
    let c = eqb-false (n / 64 % 2) 1 (or_right (has_wrong_gap v) _ (or_right (has_no_status v) _ fails)) in
    record {
      flags = without_8 n (without_16 n (without_32 n (without_64 n high c) b) a) (eqb-false (n / 8 % 2) 1 t);
      bytes = rules.bytes t;
    }

-- and where flags and bytes 2-3 are as document 01 has them, the layout is document 01's
pub layout_before : (v : Record) → v.flags ≤ 7 → v.transmit_command ≡ 0 → keeps_layout v ≡ old_layout v
unfolding keeps_layout breaks_transfer transfer_fails
layout_before v h z =
    let p = plain v h in
    simp (le-leb v.flags 127 (omega arith), le-leb v.flags 7 h, p.transfer, p.status, p.gap, p.second, z, and-true)

-- what is then left of the rules of transfers: "bytes 2-3 are set without flag 8"
pub unmarked : (v : Record) → v.flags ≤ 7 → breaks_transfer v ≡ not (eqb v.transmit_command 0)
unfolding breaks_transfer transfer_fails
unmarked v h =
    let p = plain v h in
    simp (p.transfer, p.status, p.gap, p.second, or-false)
