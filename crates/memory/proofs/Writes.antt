-- A list of writes put into RAM: its parts one after the other, one more write, and the length kept.
use Prim.Native.Nat.{ℕ, ◌+◌}
use native.Mathlib.Numerals.{add-one}
use mathlib.Core.Path.{◌≡◌, refl, ◌∙◌}
use mathlib.Core.List.{List, [], ◌∷◌, ◌++◌}
use lib.ListN.{length, set, length-set}
use Rattle.memory.specs.Rows.{row}
use Rattle.memory.specs.Writes.{Write, apply_writes}

-- two lists one after the other
pub apply_append :
    (xs ys : List Write) (ram : List ℕ) → apply_writes (xs ++ ys) ram ≡ apply_writes ys (apply_writes xs ram)
unfolding apply_writes
apply_append [] ys ram = refl
apply_append (x ∷ xs) ys ram = apply_append xs ys (set ram x.at x.word)

-- one write more in a row
pub apply_more :
    (f : ℕ → Write) (n : ℕ) (ram : List ℕ) →
    apply_writes (row f (n + 1)) ram ≡ set (apply_writes (row f n) ram) (f n).at (f n).word
unfolding apply_writes row
apply_more f n ram = rw add-one (apply_append (row f n) (f n ∷ []) ram)

-- no list of writes changes the length
pub length_apply : (xs : List Write) (ram : List ℕ) → length (apply_writes xs ram) ≡ length ram
unfolding apply_writes
length_apply [] ram = refl
length_apply (x ∷ xs) ram = length_apply xs (set ram x.at x.word) ∙ simp length-set
