-- How words and bytes go back to a caller.
use Rattle.std.specs.Prelude.{ℕ, List, replicate}
use Rattle.std.proofs.lemmas.List.Edits.{sets}

-- ys over the first of xs, as far as xs reaches; what stands behind them keeps its contents
abbrev pub over : List ℕ → List ℕ → List ℕ
over xs ys = sets xs 0 ys

-- n zeros over the first of xs: what a refusal puts for an answer
abbrev pub zeros_over : List ℕ → ℕ → List ℕ
zeros_over xs n = over xs (replicate n 0)

-- how many bytes a record has, and a long one
abbrev pub record_bytes : ℕ
record_bytes = 80

abbrev pub long_record_bytes : ℕ
long_record_bytes = 96
