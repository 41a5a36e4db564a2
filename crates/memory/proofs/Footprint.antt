-- What a list of writes leaves alone, and what it leaves behind.
use Rattle.std.proofs.lemmas.Grind.{common_steps}
use Prim.Native.Nat.{ℕ, zero, suc, ◌<◌}
use native.Mathlib.Omega.{arith}
use mathlib.Core.Path.{◌≡◌, refl, ◌∙◌}
use mathlib.Core.Logic.{⊎_elim}
use mathlib.Core.List.{List, [], ◌∷◌, ◌++◌}
use lib.ListN.{length, get_or, set, length-set}
use lib.Seq.{get_or-set_same, get_or-set_other}
use Rattle.words.proofs.Basics.{eq_or_ne}
use Rattle.memory.specs.Rows.{row, Each}
use Rattle.memory.specs.Writes.{Write, apply_writes, writes_to}
use Rattle.memory.proofs.Rows.{each_append, each_row}
use Rattle.memory.proofs.Writes.{apply_append, length_apply}

-- no write of the list names the address
abbrev pub Avoids : ℕ → List Write → Type 0
Avoids a xs = Each (λ x. a ≡ x.at → ⊥) xs

-- such an address keeps its word
pub untouched :
    (a : ℕ) (xs : List Write) (ram : List ℕ) → Avoids a xs → get_or (apply_writes xs ram) a 0 ≡ get_or ram a 0
unfolding apply_writes
untouched a [] ram h = refl
untouched a (x ∷ xs) ram h =
    untouched a xs (set ram x.at x.word) h.1 ∙ get_or-set_other ram x.at a x.word 0 h.0

pub avoids_append : (a : ℕ) (xs ys : List Write) → Avoids a xs → Avoids a ys → Avoids a (xs ++ ys)
avoids_append a xs ys h k = each_append (λ (x : Write). a ≡ x.at → ⊥) xs ys h k

pub avoids_places :
    (a : ℕ) (place word : ℕ → ℕ) (n : ℕ) → ((k : ℕ) → k < n → a ≡ place k → ⊥) → Avoids a (writes_to place word n)
avoids_places a place word n h = each_row (λ (x : Write). a ≡ x.at → ⊥) (λ k. record { at = place k; word = word k }) n h

-- one write puts the same word into two RAMs of one length
set_same_at :
    (a i w : ℕ) (m n : List ℕ) → length m ≡ length n → get_or m a 0 ≡ get_or n a 0 → get_or (set m i w) a 0 ≡ get_or (set n i w) a 0
set_same_at a i w m n l e = grind (arith, common_steps)

-- a list of writes leaves the same word at an address of two RAMs, where the same word was
pub same_at :
    (a : ℕ) (xs : List Write) (m n : List ℕ) →
    length m ≡ length n →
    get_or m a 0 ≡ get_or n a 0 →
    get_or (apply_writes xs m) a 0 ≡ get_or (apply_writes xs n) a 0
unfolding apply_writes
same_at a [] m n l e = e
same_at a (x ∷ xs) m n l e =
    same_at a xs (set m x.at x.word) (set n x.at x.word) (simp length-set l) (set_same_at a x.at x.word m n l e)

-- where places differ, each of n writes leaves its word
pub written :
    (place word : ℕ → ℕ) (n k : ℕ) (ram : List ℕ) →
    k < n →
    place k < length ram →
    ((j : ℕ) → k < j → j < n → place k ≡ place j → ⊥) →
    get_or (apply_writes (writes_to place word n) ram) (place k) 0 ≡ word k
unfolding row apply_writes
written place word zero k ram h l d = absurd (omega arith)
written place word (suc n) k ram h l d =
    let m = apply_writes (writes_to place word n) ram in
    let e = apply_append (writes_to place word n) (record { at = place n; word = word n } ∷ []) ram in
    ⊎_elim
    (λ (q : k ≡ n).
    let r : place n < length m = rw (length_apply, ← q) l in
    rw (e, q) (get_or-set_same m (place n) (word n) 0 r))
    (λ (q : k ≡ n → ⊥).
    let r : k < n = omega arith in
    rw e
    (get_or-set_other m (place n) (place k) (word n) 0 (d n r (omega arith))
    ∙ written place word n k ram r l (λ j a b. d j a (omega arith))))
    (eq_or_ne k n)
