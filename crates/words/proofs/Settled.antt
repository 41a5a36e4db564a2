-- When a contract says enough: for each input it allows one result and one last value of each lent word.
use Prim.Native.Nat.{ℕ}
use mathlib.Core.Path.{◌≡◌, sym, ◌∙◌}
use mathlib.Core.List.{List}
use contract.Lifetimes.{Lfts}
use borrow.Fn.Kinds.{ParamKind, ResultKind, Dens, Out, res_t, ended_of}
use denote.Triple.Clauses.{Lasts, at_exit}

-- two results that are equal to one definition's value are equal
pub determined : {A : Type 0} {d x y : A} → x ≡ d → y ≡ d → x ≡ y
determined p q = p ∙ sym q

-- For each input the contract allows one result, and one last value of each lent word.
abbrev pub Settled : (n : ℕ) (ps : List (ParamKind n)) (r : ResultKind n) → Out n ps r → Type 0
Settled n ps r post =
    (κs : Lfts n) (a : Dens κs ps) (x y : (res_t r κs).Denot) (v w : Lasts (ended_of n ps r) κs a) →
    post κs a x (at_exit (ended_of n ps r) κs a v) →
    post κs a y (at_exit (ended_of n ps r) κs a w) →
    (x ≡ y) × (v ≡ w)
