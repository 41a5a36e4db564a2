-- Numbers that pass a test, and pairs of numbers that pass one, each in rising order.
use Rattle.std.specs.Prelude.{ℕ, zero, suc, ◌+◌, ◌*◌, Bool, cond, ◌&&◌, List, [], ◌∷◌, ◌++◌, map, get_or, ltb}

-- the numbers below n that pass, "in rising number"
unfoldable pub passing : (ℕ → Bool) → ℕ → List ℕ
passing test zero = []
passing test (suc n) = passing test n ++ cond (test n) (n ∷ []) []

-- the first n numbers of a list, 0 for each that it has not
unfoldable pub front : List ℕ → ℕ → List ℕ
front numbers zero = []
front numbers (suc n) = front numbers n ++ (get_or numbers n 0 ∷ [])

-- "lower number first"
pub record Pair : Type 0 where
  pub lower : ℕ
  pub higher : ℕ

abbrev pub pair_of : ℕ → ℕ → Pair
pair_of lower higher = record { lower = lower; higher = higher }

-- of higher number, and it passes
abbrev pub above : (ℕ → ℕ → Bool) → ℕ → ℕ → Bool
above meet lower higher = ltb lower higher && meet lower higher

-- of the numbers below `end`, the pairs of which this one is the lower
unfoldable pub pairs_with : (ℕ → ℕ → Bool) → ℕ → ℕ → List Pair
pairs_with meet end lower = map (pair_of lower) (passing (above meet lower) end)

-- and those whose lower number is below n: "each meeting pair once"
unfoldable pub pairs_below : (ℕ → ℕ → Bool) → ℕ → ℕ → List Pair
pairs_below meet end zero = []
pairs_below meet end (suc n) = pairs_below meet end n ++ pairs_with meet end n

-- a pair as one word: the lower number in the high byte, the higher in the low byte
abbrev pub pair_word : Pair → ℕ
pair_word p = 256 * p.lower + p.higher

abbrev pub pair_words : List Pair → List ℕ
pair_words pairs = map pair_word pairs
