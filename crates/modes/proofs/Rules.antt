-- Rules of the table of mode codes, each proved at all 32 entries by one test that is computed.
use Prim.Native.Nat.{ℕ, zero, suc, ◌+◌, ◌%◌, ◌<◌}
use native.Mathlib.Omega.{arith}
use mathlib.Core.Path.{◌≡◌, refl}
use mathlib.Core.Bool.{Bool, true, not, ◌&&◌, ◌||◌}
use mathlib.Core.List.{List, [], ◌∷◌}
use lib.Dec.{leb}
use lib.ListN.{length, get_or}
use Rattle.words.specs.Bits.{bit_of}
use Rattle.words.proofs.Basics.{and_left, and_right}
use Rattle.modes.specs.declared.table.Mode.{Mode}
use Rattle.modes.specs.Table.{reserved, modes, mode_of}
use Rattle.modes.specs.Form.{agree}

-- the test passes at each entry and its place, counted from i
abbrev every : (ℕ → Mode → Bool) → ℕ → List Mode → Bool
every f i [] = true
every f i (m ∷ ms) = f i m && every f (suc i) ms

-- how many entries pass the test
abbrev tally : (Mode → Bool) → List Mode → ℕ
tally f [] = 0
tally f (m ∷ ms) = bit_of (f m) + tally f ms

from :
    (f : ℕ → Mode → Bool) (ms : List Mode) (i : ℕ) → every f i ms ≡ true → (k : ℕ) → k < length ms →
    f (i + k) (get_or ms k reserved) ≡ true
from f [] i t k h = absurd (omega arith)
from f (m ∷ ms) i t zero h =
    let e : i + 0 ≡ i = omega arith in
    rw e (and_left (f i m) (every f (suc i) ms) t)
from f (m ∷ ms) i t (suc k) h =
    let e : i + suc k ≡ suc i + k = omega arith in
    rw e (from f ms (suc i) (and_right (f i m) (every f (suc i) ms) t) k (omega arith))

pub thirty_two : length modes ≡ 32
unfolding modes
thirty_two = refl

at_code : (f : ℕ → Mode → Bool) → every f 0 modes ≡ true → (code : ℕ) → f (code % 32) (mode_of code) ≡ true
unfolding mode_of
at_code f t code =
    let e : 0 + code % 32 ≡ code % 32 = omega arith in
    rw e at (from f modes 0 t (code % 32) (omega (arith, thirty_two)))

pub fifteen_defined : tally (λ m. m.defined) modes ≡ 15
unfolding modes
fifteen_defined = refl

pub ten_broadcast : tally (λ m. m.broadcast) modes ≡ 10
unfolding modes
ten_broadcast = refl

-- an entry has a word exactly where it is defined and its code is 16 to 31; one that sends a word may not be broadcast,
-- and a reserved one has nothing
abbrev pub ruled : ℕ → Mode → Bool
ruled code m =
    agree m.word (m.defined && leb 16 code)
    && (not ((m.word && m.transmit) && m.broadcast)
    && (m.defined || not (m.transmit || (m.word || m.broadcast))))

all_ruled : every ruled 0 modes ≡ true
unfolding modes
all_ruled = refl

pub mode_ruled : (code : ℕ) → ruled (code % 32) (mode_of code) ≡ true
mode_ruled code = at_code ruled all_ruled code
