-- Two RAMs that are equal outside a set of addresses, over any set: `Off a` says that address a is none of the set.
use Rattle.std.proofs.Common.{rules}
use Prim.Native.Nat.{ℕ}
use mathlib.Core.Path.{◌≡◌}
use mathlib.Core.List.{List}
use lib.ListN.{length, get_or}

pub record Alike (Off : ℕ → Type 0) (m n : List ℕ) : Type 0 where
  pub long : length m ≡ length n
  pub words : (a : ℕ) → Off a → get_or m a 0 ≡ get_or n a 0

pub alike_self : (Off : ℕ → Type 0) (m : List ℕ) → Alike Off m m
alike_self Off m = search rules

pub alike_both : (Off : ℕ → Type 0) (l m n : List ℕ) → Alike Off l m → Alike Off m n → Alike Off l n
alike_both Off l m n e g = search rules

-- and outside every larger set
pub alike_more :
    (Off Further : ℕ → Type 0) (m n : List ℕ) → ((a : ℕ) → Further a → Off a) → Alike Off m n → Alike Further m n
alike_more Off Further m n h e = search rules
