-- For the code alone: words with their two bytes swapped. No code goes by them any more; the laws of `proofs/Swapped.antt`
-- speak of them.
use Rattle.std.specs.Prelude.{ℕ, ◌+◌, ◌*◌, ◌/◌, ◌%◌, List, get_or}
use Rattle.words.specs.Fill.{fill}

abbrev pub swapped : ℕ → ℕ
swapped w = w % 256 * 256 + w / 256 % 256

-- each of 32 words
abbrev pub all_swapped : List ℕ → List ℕ
all_swapped words = fill (λ k. swapped (get_or words k 0)) words 32
