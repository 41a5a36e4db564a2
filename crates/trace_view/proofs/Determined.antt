-- The inputs determine the answer: for each public function, any two results that its contract allows are equal, and so
-- are any two last values of each lent word. Each line speaks of the contract as the checker reads it (`Reads.Post`),
-- so that none can drift from its function. Where a parameter or the result is a `View`, a further line says what the
-- contract is, as the checker has it.
use Prim.Native.Nat.{ℕ}
use mathlib.Core.Path.{◌≡◌, refl}
use mathlib.Core.List.{List}
use seplogic.Ra.Ura.{Ura}
use base.Logic.{SProp}
use prog.Memory.{Memory}
use prog.Routine.{Routine}
use types.Logic.{Logic}
use contract.Lifetimes.{Lfts}
use contract.Monad.{Fun, fact}
use denote.Ref.{Bor}
use denote.Triple.Clauses.{AtExit}
use Rattle.words.proofs.Settled.{determined, Settled}
use Rattle.trace_view.specs.declared.view.View.{View}
use Rattle.trace_view.specs.declared.view.Taken.{Taken}
use Rattle.trace_view.specs.View.{taken_at}
use Rattle.trace_view.specs.contracts.view.view_of as made_by
use Rattle.trace_view.specs.contracts.view.next as next_of
use Rattle.trace_view.specs.contracts.view.moved as moved_by
use Rattle.trace_view.proofs.view

pub take_at_settled : Settled 1 view.take_at.Kinds.ps view.take_at.Kinds.r view.take_at.Reads.Post
take_at_settled κs a x y v w p q = (determined p q, refl)

-- ---- the functions over a view

module _ {M : Type 1} {𝓤 : Ura M} (𝓛 : Logic 𝓤) (mem : Memory → SProp 𝓤) (run : Routine → Fun 𝓤) (κs : Lfts 1) where
  -- what each contract says, as the checker has it
  pub view_of_says :
      (trace : Bor (List ℕ)) (r : View) (e : AtExit made_by.ended κs) →
      (made_by.clauses 𝓛 mem run κs (trace, tt)).ensures tt r e ≡ fact 𝓤 ((r.trace ≡ trace) × (r.at ≡ 0))
  view_of_says trace r e = refl

  pub next_says :
      (v : View) (r : Taken) (e : AtExit next_of.ended κs) →
      (next_of.clauses 𝓛 mem run κs (v, tt)).ensures tt r e ≡ fact 𝓤 (r ≡ taken_at v.trace.now v.at)
  next_says v r e = refl

  pub moved_says :
      (v : View) (at : ℕ) (r : View) (e : AtExit moved_by.ended κs) →
      (moved_by.clauses 𝓛 mem run κs (v, (at, tt))).ensures tt r e ≡ fact 𝓤 ((r.trace ≡ v.trace) × (r.at ≡ at))
  moved_says v at r e = refl

-- a view is its trace and its place, so the three facts leave nothing open
pub view_settled :
    (trace : Bor (List ℕ)) (at : ℕ) (x y : View) →
    (x.trace ≡ trace) × (x.at ≡ at) →
    (y.trace ≡ trace) × (y.at ≡ at) →
    x ≡ y
view_settled trace at x y p q = λ i. record { trace = determined p.0 q.0 i; at = determined p.1 q.1 i }

pub next_settled :
    (v : View) (x y : Taken) → x ≡ taken_at v.trace.now v.at → y ≡ taken_at v.trace.now v.at → x ≡ y
next_settled v x y p q = determined p q

-- the three as the checker reads them
pub view_of_reads_settled : Settled 1 view.view_of.Kinds.ps view.view_of.Kinds.r view.view_of.Reads.Post
view_of_reads_settled κs a x y v w p q = (view_settled a.0 0 x y p q, refl)

pub next_reads_settled : Settled 1 view.next.Kinds.ps view.next.Kinds.r view.next.Reads.Post
next_reads_settled κs a x y v w p q = (next_settled a.0 x y p q, refl)

pub moved_reads_settled : Settled 1 view.moved.Kinds.ps view.moved.Kinds.r view.moved.Reads.Post
moved_reads_settled κs a x y v w p q = (view_settled a.0.trace a.1.0 x y p q, refl)
