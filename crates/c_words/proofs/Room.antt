-- A slice that may end early: past the end nothing is put.
use Rattle.std.proofs.Common.{ℕ, zero, suc, ◌+◌, ◌-◌, ◌≤◌, ◌<◌, min, ◌≡◌, refl, sym, ◌∙◌, List, [], ◌∷◌, length, take, set, arith, length-set, length-take-le, append_assoc}
use mathlib.Core.Logic.{⊎_elim}
use borrow.Rule.Slice.PartMut.{put_mid}
use lib.Seq.{sets, sets-eq, set_out}
use Rattle.std.proofs.lemmas.List.Edits.{paste_none, paste_all}
use Rattle.std.proofs.lemmas.Slice.{put_mid-paste}
use Rattle.words.proofs.Basics.{lt_or_ge}

module _ {A : Type 0} where
  sets_past : (l vs : List A) (i : ℕ) → length l ≤ i → sets l i vs ≡ l
  sets_past l [] i h = refl
  sets_past l (v ∷ vs) i h =
      let same : set l i v ≡ l = set_out l i v h in
      rw same (sets_past l vs (suc i) (omega arith))

  -- the first k are all that there is room for
  sets_room :
      (l vs : List A) (i k : ℕ) → min (length l) (i + length vs) ≤ i + k → sets l i vs ≡ sets l i (take k vs)
  sets_room l [] i zero h = refl
  sets_room l [] i (suc k) h = refl
  sets_room l (v ∷ vs) i zero h = sets_past l (v ∷ vs) i (omega arith)
  sets_room l (v ∷ vs) i (suc k) h =
      sets_room (set l i v) vs (suc i) k (omega (arith, length-set {A = A} l i v))

  -- a copy of all of vs into the part that begins at `at`
  pub copied_whole :
      (l vs ys : List A) (at d : ℕ) → d ≡ length vs → at + d ≤ length l → ys ≡ vs → put_mid at d l ys ≡ sets l at vs
  copied_whole l vs ys at d e h p =
      put_mid-paste at d l ys vs d p refl e
      ∙ paste_all l at vs d e
      ∙ rw (← append_assoc, e) (sym (sets-eq vs l at (omega arith)))

  -- and of the first k, as many as there is room for, from n on
  pub copied_over :
      (l vs ys : List A) (at n k d : ℕ) →
      n ≡ min at (length l) →
      k ≡ min (length vs) (length l - n) →
      d ≡ k →
      ys ≡ take k vs →
      put_mid n d l ys ≡ sets l at vs
  copied_over l vs ys at n k d en ek ed p =
      let long : length (take k vs) ≡ k = length-take-le k vs (omega arith) in
      ⊎_elim
      (λ (inside : at < length l).
      let first : n ≡ at = omega arith in
      rw first (copied_whole l (take k vs) ys at d (ed ∙ sym long) (omega arith) p)
      ∙ sym (sets_room l vs at k (omega arith)))
      (λ (past : length l ≤ at).
      let none : k ≡ 0 = omega arith in
      put_mid-paste n d l ys (take k vs) k p (sym ed) (sym long)
      ∙ rw none (sym (paste_none l n (take 0 vs)) ∙ sym (sets_past l vs at past)))
      (lt_or_ge at (length l))
