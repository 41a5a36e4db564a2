-- A record's list of writes: whatever is asked is asked of one list; and a data word is the record's.
use Prim.Native.Nat.{ℕ, ◌+◌, ◌-◌}
use native.Mathlib.Omega.{arith}
use mathlib.Core.Path.{◌≡◌, ap}
use mathlib.Core.Logic.{⊎_elim}
use mathlib.Core.List.{List, map}
use lib.ListN.{get_or}
use borrow.Author.Tests.{eq-eqb, ne_eqb}
use Rattle.words.specs.declared.settings.Settings.{Settings}
use Rattle.words.proofs.Basics.{eq_or_ne}
use Rattle.records.specs.declared.value.Record.{Record}
use Rattle.memory.specs.Rows.{Each}
use Rattle.memory.specs.State.{State}
use Rattle.plan.specs.declared.plan.Plan.{Plan}
use Rattle.writes.specs.declared.part.Part.{Part}
use Rattle.writes.specs.declared.part.Part.TheVariants.{Data, Pointer, Stack, StackPointer}
use Rattle.writes.specs.Asked.{Planned, planned}
use Rattle.writes.specs.Writes.{list_of}
use Rattle.writes.proofs.Listed.{list_asked, each_listed}
use Rattle.message.specs.Heard.{Heard}
use Rattle.message.specs.Tests.{refusal_for}
use Rattle.message.specs.Message.{plan_for}
use Rattle.who.specs.Next.{list_in}

pub asked_in :
    {A : Type 0} (ask : ℕ → ℕ → Part → A) (s : Settings) (h : Heard) (x : State) →
    list_in ask s h x ≡ map (λ w. ask w.at w.word w.part) (list_in planned s h x)
unfolding list_in
asked_in ask s h x =
    ⊎_elim
    (λ (e : refusal_for s h x ≡ 0).
    rw (eq-eqb (refusal_for s h x) 0 e) (list_asked ask s (plan_for s h.value x) h.value))
    (λ (m : refusal_for s h x ≡ 0 → ⊥). rw (ne_eqb (refusal_for s h x) 0 m))
    (eq_or_ne (refusal_for s h x) 0)

-- a write that is a data word holds the word at its place, counted from 1
abbrev pub DataOf : List ℕ → Planned → Type 0
DataOf words w = (k : ℕ) → w.part ≡ Data k → w.word ≡ get_or words (k - 1) 0

pub data_words : (s : Settings) (p : Plan) (v : Record) → Each (DataOf v.words) (list_of planned s p v)
data_words s p v =
    each_listed (DataOf v.words) planned s p v
    (λ j l k (e : Data (j + 1) ≡ Data k).
    let q : j + 1 ≡ k = cc in
    let r : j ≡ k - 1 = omega arith in
    ap (λ (i : ℕ). get_or v.words i 0) r)
    (λ k (e : Pointer ≡ Data k). let z : ◌≡◌ {A = ℕ} 0 1 = cc in absurd (omega arith))
    (λ j l k (e : Stack (j + 1) ≡ Data k). let z : ◌≡◌ {A = ℕ} 0 1 = cc in absurd (omega arith))
    (λ k (e : StackPointer ≡ Data k). let z : ◌≡◌ {A = ℕ} 0 1 = cc in absurd (omega arith))
