-- Where mode data lies: 0110-013F.
use Prim.Native.Nat.{ℕ, ◌≤◌, ◌<◌}
use native.Mathlib.Omega.{arith}
use Rattle.words.specs.declared.settings.Settings.{Settings}
use Rattle.memory.specs.Kind.{kind_of}
use Rattle.memory.proofs.Places.{kind_low}
use Rattle.modes.specs.Place.{mode_place}

pub mode_place_between : (s : Settings) (command : ℕ) → (0x110 ≤ mode_place s command) × (mode_place s command < 0x140)
unfolding mode_place
mode_place_between s command =
    let k = kind_low (kind_of s command) in (omega arith, omega arith)
