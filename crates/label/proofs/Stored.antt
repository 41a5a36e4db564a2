-- Runs of elements put into a list: one after the other, and one element more.
use Prim.Native.Nat.{ℕ, suc, ◌+◌, ◌-◌, ◌<◌, ◌≤◌}
use native.Mathlib.Nat.{add-zero, zero-add}
use native.Mathlib.Omega.{arith}
use mathlib.Core.Path.{◌≡◌, sym}
use mathlib.Core.List.{List, [], ◌∷◌, ◌++◌, append-nil, append_assoc}
use lib.ListN.{length, get_or, set, take, drop, length-drop, get_or-append}
use lib.Seq.{sets, sets-eq, take_all, drop-drop}
use borrow.Rule.Slice.PartMut.{mid_of, put_mid}
use Rattle.std.proofs.lemmas.List.{drop_all}

module _ {A : Type 0} where
  -- two runs, the second from where the first ends, are their append
  pub run_append :
      (l xs ys : List A) (at : ℕ) → sets (sets l at xs) (at + length xs) ys ≡ sets l at (xs ++ ys)
  run_append l [] ys at = rw add-zero
  run_append l (x ∷ xs) ys at =
      let e : at + suc (length xs) ≡ suc at + length xs = omega arith in
      rw e (run_append (set l at x) xs ys (suc at))

  -- a run that fits stands there
  pub run_front :
      (l xs : List A) (k : ℕ) (d : A) → length xs ≤ length l → k < length xs → get_or (sets l 0 xs) k d ≡ get_or xs k d
  run_front l xs k d h p =
      rw (sets-eq xs l 0 (omega arith)) (get_or-append xs (drop (0 + length xs) l) d k p)

  -- one element behind a run
  pub run_more : (l xs : List A) (y : A) (at : ℕ) → set (sets l at xs) (at + length xs) y ≡ sets l at (xs ++ (y ∷ []))
  run_more l xs y at = run_append l xs (y ∷ []) at

  -- a run put into the part from the place `at` on
  pub run_tail :
      (l xs : List A) (n at : ℕ) → length l ≡ n → at + length xs ≤ n →
      put_mid at (n - at) l (sets (mid_of at (n - at) l) 0 xs) ≡ sets l at xs
  run_tail l xs n at e h =
      let tail = drop at l in
      let long = length-drop at l in
      let same : take (n - at) tail ≡ tail = take_all (n - at) tail (omega arith) in
      let none : drop (n - at) tail ≡ [] = drop_all (n - at) tail (omega arith) in
      rw (same, none, append-nil, sets-eq xs tail 0 (omega arith), sets-eq xs l at (omega arith), zero-add, drop-drop)
      (sym (append_assoc (take at l) xs (drop (at + length xs) l)))
