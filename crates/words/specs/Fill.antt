-- A list with numbers filled in, one place after the other.
use Rattle.std.specs.Prelude.{ℕ, zero, suc, ◌+◌, List, set}

-- the list xs with f k at place from + k, for each k below n
unfoldable pub fill_from : ℕ → (ℕ → ℕ) → List ℕ → ℕ → List ℕ
fill_from from f xs zero = xs
fill_from from f xs (suc n) = set (fill_from from f xs n) (from + n) (f n)

-- and with f k at place k
abbrev pub fill : (ℕ → ℕ) → List ℕ → ℕ → List ℕ
fill f xs n = fill_from 0 f xs n
