-- The lower eleven bits of the status word leave the place of the RT address alone.
use Prim.Native.Nat.{◌<◌}
use native.Mathlib.Omega.{arith}
use mathlib.Core.Bool.{Bool, false, not, ◌||◌}
use mathlib.Core.List.{[], ◌∷◌}
use Rattle.words.specs.declared.settings.Settings.{Settings}
use Rattle.words.specs.Bits.{bits_of, word_of}
use Rattle.words.proofs.BitLaws.{bit_small}
use Rattle.lookup.specs.declared.target.Target.{Target}
use Rattle.plan.specs.Report.{status_bits}

low_eleven :
    (a b c d e f g h i j k : Bool) →
    word_of (false ∷ false ∷ false ∷ false ∷ false ∷ a ∷ b ∷ c ∷ d ∷ e ∷ f ∷ g ∷ h ∷ i ∷ j ∷ k ∷ []) < 2048
unfolding bits_of
low_eleven a b c d e f g h i j k =
    omega (
      arith,
      bit_small a,
      bit_small b,
      bit_small c,
      bit_small d,
      bit_small e,
      bit_small f,
      bit_small g,
      bit_small h,
      bit_small i,
      bit_small j,
      bit_small k,
    )

pub status_bits_low : (s : Settings) (t : Target) (valid : Bool) → status_bits s t valid < 2048
unfolding status_bits
status_bits_low s t valid =
    low_eleven (not valid || t.illegal) false s.service_request false false false t.broadcast t.busy
    s.subsystem_flag false s.terminal_flag
