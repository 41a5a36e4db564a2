-- Bit 6 of the interrupt word is "stack wrapped" and no other rule's.
use Prim.Native.Nat.{◌+◌, ◌*◌}
use native.Mathlib.Omega.{arith}
use mathlib.Core.Path.{◌≡◌}
use mathlib.Core.Bool.{Bool}
use Rattle.words.specs.Bits.{bit_of, bits_of}
use Rattle.plan.specs.declared.deed.Signals.{Signals}
use Rattle.plan.specs.Plan.{interrupt_word}

-- the word is a sum of its five bits and 3
pub interrupt_sum :
    (g : Signals) (wrapped : Bool) →
    interrupt_word g wrapped
    ≡ 0x4000 * bit_of g.illegal
    + 0x400 * bit_of g.rollover
    + 0x40 * bit_of wrapped
    + 0x10 * bit_of g.fault
    + 4 * bit_of g.end
    + 3
unfolding interrupt_word bits_of
interrupt_sum g wrapped = omega arith
