-- The number of a cell tells its kind and its subaddress, and is below 96.
use Prim.Native.Nat.{ℕ, ◌%◌, ◌<◌}
use native.Mathlib.Omega.{arith}
use Rattle.std.proofs.Common.{rules}
use mathlib.Core.Path.{◌≡◌}
use Rattle.words.specs.Command.{subaddress_of}
use Rattle.words.proofs.Commands.{subaddress_small}
use Rattle.memory.specs.declared.kind.Kind.{Kind}
use Rattle.memory.specs.declared.kind.Kind.TheVariants.{Receive, Transmit, Broadcast}
use Rattle.memory.specs.Kind.{cell_number, kind_numbered}

pub number_sub : (kind : Kind) (sub : ℕ) → sub < 32 → cell_number kind sub % 32 ≡ sub
unfolding cell_number
number_sub Receive sub h = omega arith
number_sub Transmit sub h = omega arith
number_sub Broadcast sub h = omega arith

pub number_kind : (kind : Kind) (sub : ℕ) → sub < 32 → kind_numbered (cell_number kind sub) ≡ kind
unfolding cell_number kind_numbered
number_kind Receive sub h = search rules
number_kind Transmit sub h = search rules
number_kind Broadcast sub h = search rules

pub number_below : (kind : Kind) (sub : ℕ) → sub < 32 → cell_number kind sub < 96
unfolding cell_number
number_below Receive sub h = omega arith
number_below Transmit sub h = omega arith
number_below Broadcast sub h = omega arith

-- and they tell its number
pub number_back : (n : ℕ) → n < 96 → cell_number (kind_numbered n) (n % 32) ≡ n
unfolding kind_numbered cell_number
number_back n h = search rules

-- cells that differ in kind or subaddress have different numbers
pub number_differs :
    (k l : Kind) (i j : ℕ) → i < 32 → j < 32 → cell_number k i ≡ cell_number l j → (k ≡ l) × (i ≡ j)
number_differs k l i j p q e =
    (cc (number_kind k i p, number_kind l j q), omega (arith, number_sub k i p, number_sub l j q, e))

-- the subaddress of a command is small enough for that
pub number_fits : (kind : Kind) (command sub : ℕ) → sub ≡ subaddress_of command → cell_number kind sub < 96
number_fits kind command sub e = number_below kind sub (omega (arith, subaddress_small command))
