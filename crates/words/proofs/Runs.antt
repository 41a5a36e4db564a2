-- Runs of numbers put into a list, one after the other.
use Prim.Native.Nat.{ℕ, suc, ◌+◌}
use native.Mathlib.Nat.{add-zero}
use native.Mathlib.Omega.{arith}
use mathlib.Core.Path.{◌≡◌}
use mathlib.Core.List.{List, [], ◌∷◌, ◌++◌}
use lib.ListN.{length, set}
use lib.Seq.{sets}

-- two runs, the second from where the first ends, are their append
pub sets_append :
    (l xs ys : List ℕ) (at : ℕ) → sets (sets l at xs) (at + length xs) ys ≡ sets l at (xs ++ ys)
sets_append l [] ys at = rw add-zero
sets_append l (x ∷ xs) ys at =
    let e : at + suc (length xs) ≡ suc at + length xs = omega arith in
    rw e (sets_append (set l at x) xs ys (suc at))
