-- Demands 1 and 2 together say enough of a message: they hold exactly where its answer and the state after it are the
-- definitions', in every word.
use Prim.Native.Nat.{ℕ, zero, suc, ◌+◌, ◌<◌}
use native.Mathlib.Omega.{arith}
use mathlib.Core.Path.{◌≡◌, refl, sym, ap, ◌∙◌}
use mathlib.Core.Logic.{◌⊎◌, inl, inr, ⊎_elim}
use lib.ListN.{get_or}
use lib.Seq.{ext_get_or}
use Rattle.words.specs.declared.settings.Settings.{Settings}
use Rattle.words.proofs.Basics.{eq_or_ne}
use Rattle.memory.specs.Map.{lookup_place, stack_pointer_place}
use Rattle.memory.specs.State.{State}
use Rattle.windows.specs.Window.{place_of}
use Rattle.cells.specs.Stack.{stack_pointer}
use Rattle.message.specs.Heard.{Heard}
use Rattle.message.specs.Tests.{refusal_for}
use Rattle.message.specs.Answer.{refused_with}
use Rattle.message.specs.Message.{answer_of, step}
use Rattle.message.proofs.Refusals.{message_done, message_refused, refused_answer, refused_state, accepted_answer}
use Rattle.demands.specs.Calls.{Message}
use Rattle.demands.specs.Meets.{deed, Worked, Meets}
use Rattle.demands.proofs.Answered.{message_answered}
use Rattle.demands.proofs.Worked.{stepped, step_worked, message_worked}

-- the answer and the state after are the definitions'
pub record Served (m : Message) : Type 0 where
  pub answer : m.answer ≡ answer_of m.settings m.heard m.before
  pub after : m.after ≡ step m.settings m.heard m.before

pub served_meets : (m : Message) → Served m → Meets m
served_meets m v =
    record {
      first = message_answered m v.answer v.after;
      second = message_worked m v.answer v.after;
    }

pub meets : (s : Settings) (h : Heard) (x : State) → Meets (stepped s h x)
meets s h x = served_meets (stepped s h x) (record { answer = refl; after = refl })

-- ---- the other way round

-- address a is place k of those below n
record Found (p : ℕ → ℕ) (a n : ℕ) : Type 0 where
  place : ℕ
  below : place < n
  same : a ≡ p place

among : (p : ℕ → ℕ) (a n : ℕ) → Found p a n ⊎ ((k : ℕ) → k < n → a ≡ p k → ⊥)
among p a zero = inr (λ k l e. omega arith)
among p a (suc n) =
    ⊎_elim
    (λ (e : a ≡ p n). inl (record { place = n; below = omega arith; same = e }))
    (λ (other : a ≡ p n → ⊥).
    ⊎_elim
    (λ (f : Found p a n). inl (record { place = f.place; below = omega (arith, f.below); same = f.same }))
    (λ (none : (k : ℕ) → k < n → a ≡ p k → ⊥).
    inr
    (λ k l e.
    ⊎_elim (λ (same : k ≡ n). other (e ∙ ap p same)) (λ (m : k ≡ n → ⊥). none k (omega arith) e) (eq_or_ne k n)))
    (among p a n))
    (eq_or_ne a (p n))

-- an accepted message leaves every word of RAM as the definitions do
module _ (m : Message) (w : Worked m) (e : refusal_for m.settings m.heard m.before ≡ 0) where
  abbrev s : Settings
  s = m.settings

  abbrev n : Message
  n = stepped s m.heard m.before

  abbrev v : Worked n
  v = step_worked s m.heard m.before e

  abbrev pointer : ℕ
  pointer = stack_pointer m.before.ram s

  Same : ℕ → Type 0
  Same a = get_or m.after.ram a 0 ≡ get_or n.after.ram a 0

  same_others :
      (a : ℕ) →
      ((k : ℕ) → k < (deed m).stored → a ≡ place_of (deed m).window k → ⊥) →
      ((k : ℕ) → k < 4 → a ≡ pointer + k → ⊥) →
      Same a
  unfolding Same stack_pointer
  same_others a stored descriptor =
      ⊎_elim (λ (l : a ≡ lookup_place s.area (deed m).cell). rw l (w.cell.pointer ∙ sym v.cell.pointer))
      (λ (l : a ≡ lookup_place s.area (deed m).cell → ⊥).
      ⊎_elim (λ (p : a ≡ stack_pointer_place s.area). rw p (w.stack ∙ sym v.stack))
      (λ (p : a ≡ stack_pointer_place s.area → ⊥).
      w.others a (record { cell = record { stored = stored; pointer = l }; descriptor = descriptor; stack = p })
      ∙ sym (v.others a (record { cell = record { stored = stored; pointer = l }; descriptor = descriptor; stack = p })))
      (eq_or_ne a (stack_pointer_place s.area)))
      (eq_or_ne a (lookup_place s.area (deed m).cell))

  same_word : (a : ℕ) → Same a
  unfolding Same
  same_word a =
      ⊎_elim
      (λ (f : Found (place_of (deed m).window) a (deed m).stored).
      rw f.same (w.cell.stored f.place f.below ∙ sym (v.cell.stored f.place f.below)))
      (λ (stored : (k : ℕ) → k < (deed m).stored → a ≡ place_of (deed m).window k → ⊥).
      ⊎_elim
      (λ (f : Found (λ k. pointer + k) a 4).
      rw f.same (w.descriptor f.place f.below ∙ sym (v.descriptor f.place f.below)))
      (λ (descriptor : (k : ℕ) → k < 4 → a ≡ pointer + k → ⊥). same_others a stored descriptor)
      (among (λ k. pointer + k) a 4))
      (among (place_of (deed m).window) a (deed m).stored)

  worked_after : m.after ≡ n.after
  unfolding Same
  worked_after =
      λ i. record {
        ram = ext_get_or 0 m.after.ram n.after.ram (w.long ∙ sym v.long) (λ k h. same_word k) i;
        reply = (w.reply ∙ sym v.reply) i;
        remembered = (w.remembered ∙ sym v.remembered) i;
      }

-- so what meets both demands is what the definitions say
pub served : (m : Message) → Meets m → Served m
served m k =
    let s = m.settings in
    let h = m.heard in
    let x = m.before in
    ⊎_elim
    (λ (e : refusal_for s h x ≡ 0).
    let w = k.second.worked (k.second.accepted ((message_done s h x).0 e)) in
    record { answer = w.answer ∙ sym (accepted_answer s h x e); after = worked_after m w e })
    (λ (some : refusal_for s h x ≡ 0 → ⊥).
    let told : m.answer.number ≡ refusal_for s h x =
    (k.first.refused (refusal_for s h x) some).1 ((message_refused s h x (refusal_for s h x) some).0 refl) in
    let no : m.answer.number ≡ 0 → ⊥ = λ z. some (sym told ∙ z) in
    record {
      answer = k.first.zero no ∙ ap refused_with told ∙ sym (refused_answer s h x some);
      after = k.first.kept no ∙ sym (refused_state s h x some);
    })
    (eq_or_ne (refusal_for s h x) 0)
