-- What every step and every run keeps: four calls at most, eight flags.
use Prim.Native.Nat.{ℕ, zero, suc, ◌+◌, ◌-◌, ◌/◌, ◌%◌, ◌^◌, ◌≤◌, ◌<◌}
use native.Mathlib.Omega.{arith}
use mathlib.Core.Path.{◌≡◌, refl, ◌∙◌}
use mathlib.Core.Logic.{⊎_elim}
use mathlib.Core.Bool.{Bool, true, false}
use mathlib.Core.List.{List}
use lib.ListN.{length, get_or, set, length-set}
use lib.Dec.{leb, eqb}
use borrow.Author.Tests.{leb-false, eqb-false}
use Rattle.words.specs.Bits.{bit_of}
use Rattle.words.proofs.Basics.{yes_or_no}
use Rattle.trace_view.specs.View.{taken_at}
use Rattle.control_words.specs.declared.condition.Outcome.{Outcome}
use Rattle.control_words.specs.declared.opcode.Operation.{Operation}
use Rattle.control_words.specs.declared.opcode.Operation.TheVariants.{Execute, Jump, Call, Return, Halt, Flag, Unknown}
use Rattle.control_words.specs.OpCode.{operation_of}
use Rattle.control_words.specs.Condition.{is_due}
use Rattle.control_words.specs.Flags.{flag_after, is_odd, flags_below, flags_after}
use Rattle.control_words.specs.Outcome.{outcome_shown}
use Rattle.control.specs.declared.machine.Machine.{Machine}
use Rattle.control.specs.declared.machine.Stand.{Stand}
use Rattle.control.specs.declared.run.Ran.{Ran}
use Rattle.control.specs.Machine.{is_going, moved_to, moved_on, called_to, returned_from, flagged_by, heard_of, machine_at, next_pair}
use Rattle.control.specs.Step.{has_pair, is_outcome, executed, called, returned, performed, carried_out, step_of}
use Rattle.control.specs.Run.{begun, stepped, advanced, run_from, run_for}
use Rattle.control.specs.Start.{not_run, start_refusal, started_at, go_on_refusal, gone_on}

-- what holds of a machine however one instruction moves it
pub record Moves (P : Machine → Type 0) (m : Machine) : Type 0 where
  pub stays : P m
  pub jumps : (at : ℕ) → P (moved_to m at)
  pub calls : m.depth < 4 → (at : ℕ) → P (called_to m at)
  pub returns : (m.depth ≡ 0 → ⊥) → P (returned_from m)
  pub flags : (parameter : ℕ) → P (flagged_by m parameter)
  pub hears : (outcome : Outcome) (place : ℕ) → P (heard_of m outcome place)

deeper : (n : ℕ) → n < 4 → n + 1 ≤ 4
deeper n h = omega arith

higher : (n : ℕ) → n ≤ 4 → n - 1 ≤ 4
higher n h = omega arith

module _ (P : Machine → Type 0) where
  abbrev Holds : Stand → Type 0
  Holds s = P s.machine

  moves_on : (m : Machine) → Moves P m → P (moved_on m)
  unfolding moved_on
  moves_on m k = k.jumps (next_pair m)

  performed_keeps :
      (trace : List ℕ) (m : Machine) (o : Operation) (parameter : ℕ) → Moves P m → Holds (performed trace m o parameter)
  unfolding executed called returned
  performed_keeps trace m Execute parameter k =
      ⊎_elim
      (λ (y : is_outcome (taken_at trace m.place) ≡ true).
      rw y (k.hears (outcome_shown (taken_at trace m.place).reading.value) (taken_at trace m.place).at))
      (λ (n : is_outcome (taken_at trace m.place) ≡ false). rw n k.stays)
      (yes_or_no (is_outcome (taken_at trace m.place)))
  performed_keeps trace m Jump parameter k = k.jumps parameter
  performed_keeps trace m Call parameter k =
      ⊎_elim (λ (y : leb 4 m.depth ≡ true). rw y k.stays)
      (λ (n : leb 4 m.depth ≡ false). rw n (k.calls (leb-false 4 m.depth n) parameter))
      (yes_or_no (leb 4 m.depth))
  performed_keeps trace m Return parameter k =
      ⊎_elim (λ (y : eqb m.depth 0 ≡ true). rw y k.stays)
      (λ (n : eqb m.depth 0 ≡ false). rw n (k.returns (eqb-false m.depth 0 n)))
      (yes_or_no (eqb m.depth 0))
  performed_keeps trace m Halt parameter k = moves_on m k
  performed_keeps trace m Flag parameter k = k.flags parameter
  performed_keeps trace m Unknown parameter k = k.stays

  carried_keeps :
      (trace : List ℕ) (m : Machine) (word parameter : ℕ) → Moves P m → Holds (carried_out trace m word parameter)
  unfolding carried_out
  carried_keeps trace m word parameter k =
      ⊎_elim
      (λ (y : is_due (operation_of word) word m.flags m.last ≡ true).
      rw y (performed_keeps trace m (operation_of word) parameter k))
      (λ (n : is_due (operation_of word) word m.flags m.last ≡ false). rw n (moves_on m k))
      (yes_or_no (is_due (operation_of word) word m.flags m.last))

  pub step_keeps : (ram trace : List ℕ) (m : Machine) → Moves P m → Holds (step_of ram trace m)
  unfolding step_of
  step_keeps ram trace m k =
      ⊎_elim
      (λ (y : has_pair ram m.pointer ≡ true).
      rw y (carried_keeps trace m (get_or ram m.pointer 0) (get_or ram (m.pointer + 1) 0) k))
      (λ (n : has_pair ram m.pointer ≡ false). rw n k.stays)
      (yes_or_no (has_pair ram m.pointer))

  -- and so of every machine that a run comes to
  advance_keeps : (ram trace : List ℕ) (r : Ran) → Moves P r.machine → P (advanced ram trace r).machine
  unfolding advanced stepped
  advance_keeps ram trace r k =
      ⊎_elim (λ (y : is_going r.end ≡ true). rw y (step_keeps ram trace r.machine k))
      (λ (n : is_going r.end ≡ false). rw n k.stays)
      (yes_or_no (is_going r.end))

  pub run_keeps :
      (ram trace : List ℕ) (r : Ran) (n : ℕ) →
      ((m : Machine) → P m → Moves P m) →
      P r.machine →
      P (run_from ram trace r n).machine
  unfolding run_from
  run_keeps ram trace r zero k p = p
  run_keeps ram trace r (suc n) k p =
      advance_keeps ram trace (run_from ram trace r n)
      (k (run_from ram trace r n).machine (run_keeps ram trace r n k p))

-- four words to return to, at most four in use, and flags of eight bits
pub record Sound (m : Machine) : Type 0 where
  pub depth : m.depth ≤ 4
  pub calls : length m.calls ≡ 4
  pub flags : m.flags < 256

bit_fits : (b : Bool) → bit_of b ≤ 1
bit_fits true = omega arith
bit_fits false = omega arith

below_fits : (n clear set flags : ℕ) → flags_below n clear set flags < 2 ^ n
unfolding flags_below
below_fits zero clear set flags = omega arith
below_fits (suc n) clear set flags =
    let h = below_fits n (clear / 2) (set / 2) (flags / 2) in
    let b = bit_fits (flag_after (is_odd clear) (is_odd set) (is_odd flags)) in
    omega arith

flags_fit : (flags parameter : ℕ) → flags_after flags parameter < 256
unfolding flags_after
flags_fit flags parameter = below_fits 8 (parameter / 256) (parameter % 256) flags

sound_moves : (m : Machine) → Sound m → Moves Sound m
unfolding moved_to called_to returned_from flagged_by heard_of
sound_moves m s =
    record {
      stays = s;
      jumps = λ at. record { depth = s.depth; calls = s.calls; flags = s.flags };
      calls =
          λ h at.
          record {
            depth = deeper m.depth h;
            calls = length-set m.calls m.depth (next_pair m) ∙ s.calls;
            flags = s.flags;
          };
      returns = λ h. record { depth = higher m.depth s.depth; calls = s.calls; flags = s.flags };
      flags =
          λ parameter.
          record { depth = s.depth; calls = s.calls; flags = flags_fit m.flags parameter };
      hears = λ outcome place. record { depth = s.depth; calls = s.calls; flags = s.flags };
    }

-- "Note that the maximum depth of the subroutine call stack is four.": whatever the list and the trace
pub run_sound :
    (ram trace : List ℕ) (m : Machine) (budget : ℕ) → Sound m → Sound (run_for ram trace m budget).machine
unfolding begun
run_sound ram trace m budget s = run_keeps Sound ram trace (begun m) budget sound_moves s

pub start_sound : (start flags : ℕ) → flags < 256 → Sound (machine_at start flags)
unfolding machine_at
start_sound start flags h = record { depth = omega arith; calls = refl; flags = h }

-- and so what the entry points give, also where they refuse
pub started_sound :
    (ram trace : List ℕ) (start flags budget : ℕ) → Sound (started_at ram trace start flags budget).machine
unfolding started_at not_run
started_sound ram trace start flags budget =
    ⊎_elim
    (λ (y : eqb (start_refusal ram start) 0 ≡ true).
    rw y (run_sound ram trace (machine_at start (flags % 256)) budget (start_sound start (flags % 256) (omega arith))))
    (λ (n : eqb (start_refusal ram start) 0 ≡ false). rw n (start_sound 0 0 (omega arith)))
    (yes_or_no (eqb (start_refusal ram start) 0))

pub gone_sound :
    (ram trace : List ℕ) (m : Machine) (budget : ℕ) → Sound m → Sound (gone_on ram trace m budget).machine
unfolding gone_on not_run
gone_sound ram trace m budget s =
    ⊎_elim
    (λ (y : eqb (go_on_refusal ram) 0 ≡ true). rw y (run_sound ram trace m budget s))
    (λ (n : eqb (go_on_refusal ram) 0 ≡ false). rw n (start_sound 0 0 (omega arith)))
    (yes_or_no (eqb (go_on_refusal ram) 0))
