-- Words put with the low byte first, after their bytes were swapped: the words as the layout has them.
use Prim.Native.Nat.{ℕ, zero, suc, ◌/◌, ◌%◌, ◌<◌, ◌≤◌}
use native.Mathlib.Omega.{arith}
use mathlib.Core.Path.{◌≡◌, refl}
use mathlib.Core.List.{List}
use lib.ListN.{length, get_or}
use Rattle.words.proofs.Fill.{length_fill, fill_at}
use Rattle.layout.specs.Swapped.{swapped, all_swapped}
use Rattle.layout.specs.Fields.{put_number, put_fields}
use Rattle.layout.specs.Writing.{word_fields, put_words}
use Rattle.layout.proofs.Fields.{put_append}

high_is_low : (w : ℕ) → swapped w / 256 % 256 ≡ w % 256
high_is_low w = omega arith

low_is_high : (w : ℕ) → swapped w % 256 ≡ w / 256 % 256
low_is_high w = omega arith

swapped_at : (words : List ℕ) (i : ℕ) → 32 ≤ length words → i < 32 → get_or (all_swapped words) i 0 ≡ swapped (get_or words i 0)
swapped_at words i h l = fill_at (λ k. swapped (get_or words k 0)) words 32 i h l

-- the high byte of a word that was swapped is its low byte before, and the other way round
pub high_at : (words : List ℕ) (i : ℕ) → 32 ≤ length words → i < 32 → get_or (all_swapped words) i 0 / 256 % 256 ≡ get_or words i 0 % 256
high_at words i h l = rw (swapped_at words i h l) (high_is_low (get_or words i 0))

pub low_at : (words : List ℕ) (i : ℕ) → 32 ≤ length words → i < 32 → get_or (all_swapped words) i 0 % 256 ≡ get_or words i 0 / 256 % 256
low_at words i h l = rw (swapped_at words i h l) (low_is_high (get_or words i 0))

length_swapped : (words : List ℕ) → length (all_swapped words) ≡ length words
length_swapped words = length_fill 0 (λ k. swapped (get_or words k 0)) words 32

-- what is put depends on the two bytes of each word alone, so words swapped twice are put as they were
pub put_twice :
    (s words : List ℕ) (n : ℕ) → 32 ≤ length words → n ≤ 32 →
    put_words s (all_swapped (all_swapped words)) n ≡ put_words s words n
unfolding put_fields word_fields put_number
put_twice s words zero h l = refl
put_twice s words (suc n) h l =
    let k : 32 ≤ length (all_swapped words) = omega (arith, length_swapped words) in
    rw (
      put_append (word_fields (all_swapped (all_swapped words)) n),
      put_append (word_fields words n),
      put_twice s words n h (omega arith),
      high_at (all_swapped words) n k (omega arith),
      low_at (all_swapped words) n k (omega arith),
      low_at words n h (omega arith),
      high_at words n h (omega arith),
    )
