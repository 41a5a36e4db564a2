-- The number that std makes of a yes or no.
use Rattle.std.proofs.Common.{◌≡◌, refl, Bool, true, false}
use Rattle.std.specs.Int.{from_bool}
use Rattle.words.specs.Bits.{bit_of}

pub from_bool-is : (b : Bool) → from_bool b ≡ bit_of b
from_bool-is true = refl
from_bool-is false = refl
