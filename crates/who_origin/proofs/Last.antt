-- The last write of a list that names an address: there is one or none; what it says, in lists one after the other and in
-- a row; and the word that it leaves.
use Prim.Native.Nat.{ℕ, zero, suc, ◌<◌}
use native.Mathlib.Omega.{arith}
use mathlib.Core.Path.{◌≡◌, refl, ap, ◌∙◌}
use mathlib.Core.Logic.{◌⊎◌, inl, inr, ⊎_elim}
use mathlib.Core.Bool.{cond}
use mathlib.Core.List.{List, [], ◌∷◌, ◌++◌, map}
use lib.ListN.{length, get_or, set, length-set, length-append}
use lib.Seq.{get_or-set_same, get_or-set_other}
use lib.Dec.{eqb}
use borrow.Author.Tests.{eq-eqb, ne_eqb}
use Rattle.words.proofs.Basics.{eq_or_ne}
use Rattle.memory.specs.Rows.{row, Each}
use Rattle.memory.proofs.Rows.{each_middle}
use Rattle.memory.specs.Writes.{Write, apply_writes}
use Rattle.memory.proofs.Footprint.{Avoids, untouched}
use Rattle.writes.specs.Asked.{Planned}
use Rattle.who_origin.specs.Origin.{names_not, LastNaming, last_said}

-- some write names the address, or none does
pub names_or_not : (a : ℕ) (ws : List Planned) → names_not a ws ⊎ LastNaming a ws
names_or_not a [] = inl tt
names_or_not a (w ∷ ws) =
    ⊎_elim
    (λ (n : names_not a ws).
    ⊎_elim
    (λ (e : a ≡ w.at). inr (record { earlier = []; it = w; later = ws; splits = refl; names = e; nobody = n }))
    (λ (e : a ≡ w.at → ⊥). inl (e, n))
    (eq_or_ne a w.at))
    (λ (l : LastNaming a ws).
    inr
    (record {
      earlier = w ∷ l.earlier;
      it = l.it;
      later = l.later;
      splits = ap (λ (xs : List Planned). w ∷ xs) l.splits;
      names = l.names;
      nobody = l.nobody;
    }))
    (names_or_not a ws)

-- no list, no write
pub none_named : (a : ℕ) → LastNaming a [] → ⊥
none_named a l =
    let e = ap (λ (xs : List Planned). length xs) l.splits ∙ length-append l.earlier (l.it ∷ l.later) in
    omega arith

-- what holds of each write holds of the last
pub each_last : (P : Planned → Type 0) (a : ℕ) (ws : List Planned) → Each P ws → (l : LastNaming a ws) → P l.it
each_last P a ws h l = each_middle P l.earlier l.it l.later (rw l.splits at h)

module _ {A : Type 0} (says : Planned → A) (a : ℕ) where
  -- two lists one after the other
  pub last_append :
      (xs ys : List Planned) (before : A) →
      last_said says a (xs ++ ys) before ≡ last_said says a ys (last_said says a xs before)
  unfolding last_said
  last_append [] ys before = refl
  last_append (x ∷ xs) ys before = last_append xs ys (cond (eqb a x.at) (says x) before)

  -- what was said before, where no write names the address
  pub last_none : (ws : List Planned) (before : A) → names_not a ws → last_said says a ws before ≡ before
  unfolding last_said
  last_none [] before n = refl
  last_none (w ∷ ws) before n = rw (ne_eqb a w.at n.0) (last_none ws before n.1)

  -- and else what the last that does says
  pub last_found : (ws : List Planned) (before : A) (l : LastNaming a ws) → last_said says a ws before ≡ says l.it
  unfolding last_said
  last_found ws before l =
      rw (l.splits, last_append l.earlier (l.it ∷ l.later) before, eq-eqb a l.it.at l.names)
      (last_none l.later (says l.it) l.nobody)

  -- whatever holds of all that is said holds of the last
  pub last_holds :
      (P : A → Type 0) → ((w : Planned) → P (says w)) → (ws : List Planned) (before : A) → P before → P (last_said says a ws before)
  unfolding last_said
  last_holds P h [] before b = b
  last_holds P h (w ∷ ws) before b =
      last_holds P h ws (cond (eqb a w.at) (says w) before)
      (⊎_elim
      (λ (e : a ≡ w.at). rw (eq-eqb a w.at e) (h w))
      (λ (e : a ≡ w.at → ⊥). rw (ne_eqb a w.at e) b)
      (eq_or_ne a w.at))

  -- a row of writes: none of them, or the write k where no later one names its place
  module _ (f : ℕ → Planned) (before : A) where
    row_more :
        (n : ℕ) →
        last_said says a (row f (suc n)) before
        ≡ cond (eqb a (f n).at) (says (f n)) (last_said says a (row f n) before)
    unfolding row last_said
    row_more n = last_append (row f n) (f n ∷ []) before

    pub row_missed : (n : ℕ) → ((k : ℕ) → k < n → a ≡ (f k).at → ⊥) → last_said says a (row f n) before ≡ before
    unfolding row last_said
    row_missed zero h = refl
    row_missed (suc n) h =
        rw (row_more n, ne_eqb a (f n).at (h n (omega arith))) (row_missed n (λ k l. h k (omega arith)))

    pub row_found :
        (n k : ℕ) →
        k < n →
        a ≡ (f k).at →
        ((j : ℕ) → k < j → j < n → a ≡ (f j).at → ⊥) →
        last_said says a (row f n) before ≡ says (f k)
    row_found zero k h e d = absurd (omega arith)
    row_found (suc n) k h e d =
        ⊎_elim
        (λ (q : k ≡ n). let g : a ≡ (f n).at = rw q at e in rw (row_more n, q, eq-eqb a (f n).at g))
        (λ (q : k ≡ n → ⊥).
        let l : k < n = omega arith in
        rw (row_more n, ne_eqb a (f n).at (d n l (omega arith))) (row_found n k l e (λ j i m. d j i (omega arith))))
        (eq_or_ne k n)

-- the writes that put a word at each place of a list
abbrev pub putting : (Planned → ℕ) → List Planned → List Write
putting f ws = map (λ w. record { at = w.at; word = f w }) ws

set_at :
    (t : List ℕ) (i a word : ℕ) → a < length t → get_or (set t i word) a 0 ≡ cond (eqb a i) word (get_or t a 0)
set_at t i a word l =
    ⊎_elim
    (λ (e : a ≡ i). let m : i < length t = omega arith in rw (eq-eqb a i e, e) (get_or-set_same t i word 0 m))
    (λ (e : a ≡ i → ⊥). rw (ne_eqb a i e) (get_or-set_other t i a word 0 e))
    (eq_or_ne a i)

-- they leave the last one's word
pub put_last :
    (f : Planned → ℕ) (a : ℕ) (ws : List Planned) (t : List ℕ) →
    a < length t →
    get_or (apply_writes (putting f ws) t) a 0 ≡ last_said f a ws (get_or t a 0)
unfolding apply_writes last_said
put_last f a [] t l = refl
put_last f a (w ∷ ws) t l =
    let m : a < length (set t w.at (f w)) = rw length-set l in
    put_last f a ws (set t w.at (f w)) m ∙ rw (set_at t w.at a (f w) l)

-- and the word that was there, where none names the address
putting_avoids : (f : Planned → ℕ) (a : ℕ) (ws : List Planned) → names_not a ws → Avoids a (putting f ws)
putting_avoids f a [] n = tt
putting_avoids f a (w ∷ ws) n = (n.0, putting_avoids f a ws n.1)

pub put_none :
    (f : Planned → ℕ) (a : ℕ) (ws : List Planned) (t : List ℕ) →
    names_not a ws →
    get_or (apply_writes (putting f ws) t) a 0 ≡ get_or t a 0
put_none f a ws t n = untouched a (putting f ws) t (putting_avoids f a ws n)
