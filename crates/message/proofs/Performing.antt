-- A record in order, performed: tested, and then refused by a number or done by a plan; and what that tells.
use Prim.Native.Nat.{ℕ}
use native.Mathlib.Omega.{arith}
use mathlib.Core.Path.{◌≡◌, refl, sym}
use mathlib.Core.Bool.{true, false, cond}
use mathlib.Core.Logic.{⊎_elim}
use mathlib.Core.List.{List}
use lib.ListN.{length}
use borrow.Author.Tests.{eq-eqb, ne_eqb}
use Rattle.words.specs.declared.settings.Settings.{Settings}
use Rattle.words.specs.declared.remembered.Remembered.{Remembered}
use Rattle.words.specs.Number.{count_full}
use Rattle.words.specs.Refusal.{first_of}
use Rattle.words.proofs.Refusals.{last_no}
use Rattle.words.proofs.Basics.{eq_or_ne, yes_or_no}
use Rattle.memory.specs.State.{State, state_of}
use Rattle.memory.specs.Map.{ram_refused}
use Rattle.windows.specs.declared.window.Window.{Window}
use Rattle.cells.specs.declared.cell.Cell.{Cell}
use Rattle.cells.specs.Cell.{window_of}
use Rattle.cells.specs.Stack.{stack_pointer, stack_window}
use Rattle.lookup.specs.declared.target.Target.{Target}
use Rattle.lookup.specs.Target.{cell_for, target_with, target_of}
use Rattle.plan.specs.declared.plan.Plan.{Plan}
use Rattle.words.specs.declared.refusal.Refusal.{Refusal}
use Rattle.words.specs.Refusals.{number_of}
use Rattle.words.proofs.Refused.{number_of-positive, number_of-injective}
use Rattle.std.specs.Prelude.{Result, Ok, Err}
use lib.Dec.{eqb}
use Rattle.message.specs.declared.perform.Performed.{Performed}
use Rattle.message.specs.declared.perform.Performed.TheVariants.{Refused, Done}
use Rattle.message.specs.Tests.{early_tests, record_tests, command_tests, refusal_for}
use Rattle.message.specs.declared.answer.Outcome.{Outcome}
use Rattle.message.specs.Heard.{Heard}
use Rattle.message.specs.Message.{carried_out, answer_of, step}
use Rattle.message.specs.Performed.{perform_tests, found_for, performed_with, performed_as, performed_of, answer_in, remembered_in}
use Rattle.message.proofs.Refusals.{refused_answer, refused_state, accepted_answer, accepted_state}
use Rattle.message.proofs.InTurn.{stops_early, stops_record, passes_record, ram_passed}

-- ---- what was performed tells the number

pub record RefusedBy (number n : ℕ) : Type 0 where
  pub same : n ≡ number
  pub some : number ≡ 0 → ⊥

pub record DoneBy (number : ℕ) (q p : Plan) : Type 0 where
  pub none : number ≡ 0
  pub plan : p ≡ q

module _ (number : ℕ) (q : Plan) where
  pub performed_refused : (n : ℕ) → Refused n ≡ performed_with number q → RefusedBy number n
  unfolding performed_with
  performed_refused n e =
      ⊎_elim
      (λ (z : number ≡ 0).
      let f = rw (eq-eqb number 0 z) at e in
      let one : ◌≡◌ {A = ℕ} 0 1 = cc in
      absurd (omega arith))
      (λ (m : number ≡ 0 → ⊥).
      let f = rw (ne_eqb number 0 m) at e in
      record { same = cc; some = m })
      (eq_or_ne number 0)

  pub performed_done : (p : Plan) → Done p ≡ performed_with number q → DoneBy number q p
  unfolding performed_with
  performed_done p e =
      ⊎_elim
      (λ (z : number ≡ 0).
      let f = rw (eq-eqb number 0 z) at e in
      record { none = z; plan = cc })
      (λ (some : number ≡ 0 → ⊥).
      let f = rw (ne_eqb number 0 some) at e in
      let one : ◌≡◌ {A = ℕ} 0 1 = cc in
      absurd (omega arith))
      (eq_or_ne number 0)

-- a result by its number and its plan
pub performed_as-injective : (a b : Result Plan Refusal) → performed_as a ≡ performed_as b → a ≡ b
performed_as-injective (Ok p) (Ok q) e = let same : p ≡ q = cc in cc
performed_as-injective (Ok p) (Err refusal) e = cc
performed_as-injective (Err refusal) (Ok p) e = cc
performed_as-injective (Err refusal) (Err other) e =
    let number : number_of refusal ≡ number_of other = cc in
    let same = number_of-injective refusal other number in
    cc

-- a refusal's number is not 0
pub refused_some : (refusal : Refusal) → eqb (number_of refusal) 0 ≡ false
refused_some refusal = ne_eqb (number_of refusal) 0 (number_of-positive refusal)

-- ---- what is worked out once, by the tests, is what the definitions work out

module _ (ram : List ℕ) (s : Settings) (pointer : ℕ) (block : Window) (p : pointer ≡ stack_pointer ram s) (w : block ≡ stack_window ram s) where
  module _ (command : ℕ) (c : Cell) (window : Window) (e : c ≡ cell_for ram s command) (f : window ≡ window_of c.scheme c.pointer) where
    pub all_found :
        (t : Target) → t ≡ target_with ram s command c window →
        record { target = t; pointer = pointer; block = block } ≡ found_for ram s command
    unfolding target_of
    all_found t g = rw (g, f, e, w, p)

-- after the early tests the number is that of the command's
pub command_number :
    (ram : List ℕ) (room : ℕ) (s : Settings) (command : ℕ) → first_of (early_tests (length ram) room s) ≡ 0 →
    first_of (perform_tests ram s command false) ≡ first_of (command_tests ram s command)
unfolding first_of
command_number ram room s command early =
    ⊎_elim
    (λ (y : ram_refused (length ram) ≡ true). absurd (ram_passed (length ram) room s true early (sym y) refl))
    (λ (n : ram_refused (length ram) ≡ false). rw n (last_no (command_tests ram s command) count_full))
    (yes_or_no (ram_refused (length ram)))

-- ---- what was heard

module _ (s : Settings) (h : Heard) (x : State) where
  abbrev early : ℕ
  early = first_of (early_tests (length x.ram) (length x.reply) s)

  -- the tests as the code asks them: early ones, the record's, and those of performing
  pub refusal_asked :
      refusal_for s h x
      ≡ cond (eqb early 0)
      (cond (eqb (first_of (record_tests h)) 0) (first_of (perform_tests x.ram s h.value.command false)) (first_of (record_tests h)))
      early
  refusal_asked =
      ⊎_elim
      (λ (z : early ≡ 0).
      ⊎_elim
      (λ (y : first_of (record_tests h) ≡ 0).
      rw (eq-eqb early 0 z, eq-eqb (first_of (record_tests h)) 0 y, command_number x.ram (length x.reply) s h.value.command z) (passes_record s h x z y))
      (λ (m : first_of (record_tests h) ≡ 0 → ⊥).
      rw (eq-eqb early 0 z, ne_eqb (first_of (record_tests h)) 0 m) (stops_record s h x z (first_of (record_tests h)) refl m))
      (eq_or_ne (first_of (record_tests h)) 0))
      (λ (m : early ≡ 0 → ⊥). rw (ne_eqb early 0 m) (stops_early s h x early refl m))
      (eq_or_ne early 0)

module _ (s : Settings) (h : Heard) (before : Remembered) (ram reply : List ℕ) where
  abbrev x : State
  x = state_of ram reply before

  abbrev Heeds : Performed → List ℕ → List ℕ → Type 0
  Heeds r m l = (r ≡ performed_of s h x) × ((m ≡ (step s h x).ram) × (l ≡ (step s h x).reply))

  -- what was performed tells the answer, and what is remembered
  pub answer_told : answer_in (performed_of s h x) ≡ answer_of s h x
  unfolding performed_of performed_with answer_in
  answer_told =
      ⊎_elim
      (λ (z : refusal_for s h x ≡ 0). rw (eq-eqb (refusal_for s h x) 0 z) (sym (accepted_answer s h x z)))
      (λ (m : refusal_for s h x ≡ 0 → ⊥). rw (ne_eqb (refusal_for s h x) 0 m) (sym (refused_answer s h x m)))
      (eq_or_ne (refusal_for s h x) 0)

  pub remembered_told : remembered_in before (performed_of s h x) ≡ (step s h x).remembered
  unfolding performed_of performed_with remembered_in carried_out
  remembered_told =
      ⊎_elim
      (λ (z : refusal_for s h x ≡ 0). rw (eq-eqb (refusal_for s h x) 0 z, accepted_state s h x z))
      (λ (m : refusal_for s h x ≡ 0 → ⊥). rw (ne_eqb (refusal_for s h x) 0 m, refused_state s h x m))
      (eq_or_ne (refusal_for s h x) 0)

  -- so what is told of it is what the definitions say
  pub told :
      (r : Performed) (m l : List ℕ) → Heeds r m l → (o : Outcome) →
      o ≡ record { answer = answer_in r; remembered = remembered_in before r } →
      (o.answer ≡ answer_of s h x) × (state_of m l o.remembered ≡ step s h x)
  told r m l e o made =
      (rw (made, e.0) answer_told, rw (made, e.0, e.1.0, e.1.1, remembered_told))
