-- For the code alone: straight runs. "Copy up to the end of the window and then from its start."
use Rattle.std.specs.Prelude.{ℕ, ◌+◌, ◌-◌, min, Bool, ◌&&◌, List, ltb, leb, get_or}
use Rattle.windows.specs.declared.window.Window.{Window}
use Rattle.windows.specs.Window.{fits_below}
use Rattle.writes.specs.declared.runs.Runs.{Runs}
use Rattle.memory.specs.Writes.{Write, writes_to}

-- n words of a list, beginning with its place `first`, straight on from place `at`
abbrev pub run_writes : ℕ → List ℕ → ℕ → ℕ → List Write
run_writes at words first n = writes_to (λ k. at + k) (λ k. get_or words (first + k) 0) n

-- the window lies in RAM of this length, and a walk of n words passes its end once at most
unfoldable pub goes_once : Window → ℕ → ℕ → Bool
goes_once w words n = (ltb w.offset w.size && leb n w.size) && fits_below w words

-- from the pointer "up to the end of the window", then "from its start"
unfoldable pub runs_of : Window → ℕ → Runs
runs_of w n =
    record {
      pointer = w.start + w.offset;
      first = min n (w.size - w.offset);
      start = w.start;
      rest = n - min n (w.size - w.offset);
    }
