-- With broadcast off no broadcast cell is used by a command, nor read by the check, whatever separate-broadcast says.
use Prim.Native.Nat.{ℕ, ◌%◌, ◌<◌}
use native.Mathlib.Omega.{arith}
use mathlib.Core.Path.{◌≡◌}
use mathlib.Core.Bool.{Bool, true, false, cond, ◌&&◌, or-false}
use lib.Dec.{ltb, leb}
use borrow.Author.Tests.{ltb-true}
use Rattle.words.specs.declared.settings.Settings.{Settings}
use Rattle.words.specs.Command.{transmits, subaddress_of}
use Rattle.words.proofs.Basics.{and_right}
use Rattle.words.proofs.Commands.{subaddress_small}
use Rattle.words.proofs.SettingsLaws.{broadcasts_off, cells_off}
use Rattle.memory.specs.declared.kind.Kind.TheVariants.{Receive, Transmit}
use Rattle.memory.specs.Kind.{cell_number, kind_of}
use Rattle.area.specs.Area.{is_read}

low_kind : (transmit : Bool) (sub : ℕ) → sub < 32 → cell_number (cond transmit Transmit Receive) sub < 64
unfolding cell_number
low_kind true sub h = omega arith
low_kind false sub h = omega arith

module _ (s : Settings) (off : s.broadcast ≡ false) where
  -- the transmit cell or the receive cell
  pub used_off : (command : ℕ) → kind_of s command ≡ cond (transmits command) Transmit Receive
  unfolding kind_of
  used_off command = rw (broadcasts_off s command off)

  pub used_low : (command : ℕ) → cell_number (kind_of s command) (subaddress_of command) < 64
  used_low command = rw (used_off command) (low_kind (transmits command) (subaddress_of command) (subaddress_small command))

  -- "broadcast cells are not read by the whole-area check"
  pub read_off : (n : ℕ) → is_read s n ≡ ((leb 1 (n % 32) && leb (n % 32) 30) && ltb n 64)
  unfolding is_read
  read_off n = rw (cells_off s off, or-false)

  pub read_low : (n : ℕ) → is_read s n ≡ true → n < 64
  read_low n e = ltb-true n 64 (and_right (leb 1 (n % 32) && leb (n % 32) 30) (ltb n 64) (rw (read_off n) at e))
