-- Whether two runs of words share one: the test is symmetric, and says no exactly where no address lies in both. An
-- address lies in a window or outside.
use Rattle.std.proofs.Common.{rules}
use Prim.Native.Nat.{ℕ, ◌+◌, ◌≤◌, ◌<◌}
use native.Mathlib.Omega.{arith}
use mathlib.Core.Path.{◌≡◌}
use mathlib.Core.Logic.{◌⊎◌}
use mathlib.Core.Bool.{false}
use Rattle.windows.specs.declared.window.Window.{Window}
use Rattle.windows.specs.Window.{place_of, meets, windows_meet}
use Rattle.windows.proofs.Wrap.{place_from, place_below}

-- the n words from a and the m words from b are apart: one ends before the other begins
abbrev pub Apart : ℕ → ℕ → ℕ → ℕ → Type 0
Apart a n b m = (a + n ≤ b) ⊎ (b + m ≤ a)

module _ (a n b m : ℕ) where
  pub meets_swap : meets a n b m ≡ meets b m a n
  unfolding meets
  meets_swap = search rules

  -- the test as an order of the ends, both ways
  pub meets_no : meets a n b m ≡ false → Apart a n b m
  unfolding meets
  meets_no e = search rules

  pub apart_no : Apart a n b m → meets a n b m ≡ false
  unfolding meets
  apart_no h = search rules

  -- where the test says no, no address lies in both
  pub nothing_shared :
      meets a n b m ≡ false → (x : ℕ) → a ≤ x → x < a + n → b ≤ x → x < b + m → ⊥
  unfolding meets
  nothing_shared e x p q r s = search rules

  -- and where no address lies in both runs, neither of them empty, it says no
  pub shares_nothing :
      0 < n → 0 < m → ((x : ℕ) → a ≤ x → x < a + n → b ≤ x → x < b + m → ⊥) → meets a n b m ≡ false
  unfolding meets
  shares_nothing i j h = grind (arith, h a, h b)

pub windows_swap : (v w : Window) → windows_meet v w ≡ windows_meet w v
windows_swap v w = meets_swap v.start v.size w.start w.size

-- address a lies outside the window
abbrev pub Outside : Window → ℕ → Type 0
Outside w a = w.start ≤ a → a < w.start + w.size → ⊥

pub in_or_out : (w : Window) (a : ℕ) → ((w.start ≤ a) × (a < w.start + w.size)) ⊎ Outside w a
in_or_out w a = search rules

-- windows that do not meet share no place
pub places_apart :
    (v w : Window) (i j : ℕ) → 0 < v.size → 0 < w.size → windows_meet v w ≡ false →
    place_of v i ≡ place_of w j → ⊥
places_apart v w i j h k e s =
    nothing_shared v.start v.size w.start w.size e (place_of v i) (place_from v i) (place_below v i h)
    (rw s (place_from w j))
    (rw s (place_below w j k))
