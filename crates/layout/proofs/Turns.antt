-- What no turn and one more turn make of the definitions of a test for zero and of the writer's loop.
use Prim.Native.Nat.{ℕ, ◌+◌, ◌*◌}
use native.Mathlib.Numerals.{add-one}
use mathlib.Core.Path.{◌≡◌, refl}
use mathlib.Core.Bool.{◌&&◌}
use mathlib.Core.List.{List}
use lib.ListN.{get_or}
use lib.Dec.{eqb}
use Rattle.layout.specs.Fields.{put_number, put_fields}
use Rattle.layout.specs.Layout.{are_zero}
use Rattle.layout.specs.Writing.{word_fields, put_words}
use Rattle.layout.proofs.Fields.{put_append}

pub are_zero_more :
    (s : List ℕ) (from n : ℕ) → are_zero s from (n + 1) ≡ (are_zero s from n && eqb (get_or s (from + n) 0) 0)
unfolding are_zero
are_zero_more s from n = rw add-one

pub put_words_none : (s words : List ℕ) → put_words s words 0 ≡ s
unfolding word_fields put_fields
put_words_none s words = refl

pub put_words_more :
    (s words : List ℕ) (n : ℕ) →
    put_words s words (n + 1) ≡ put_number (put_words s words n) (16 + 2 * n) 2 (get_or words n 0)
unfolding word_fields put_fields
put_words_more s words n = rw (add-one, put_append (word_fields words n))
