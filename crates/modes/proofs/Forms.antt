-- The forms that the table defines, against the standard's: all 64 own forms and all 64 broadcast ones, by one
-- computed test each.
use Prim.Native.Nat.{ℕ, zero, suc, ◌+◌, ◌*◌, ◌/◌, ◌%◌, ◌<◌}
use native.Mathlib.Omega.{arith}
use mathlib.Core.Path.{◌≡◌, refl}
use mathlib.Core.Bool.{Bool, true, false, cond}
use mathlib.Core.List.{List, [], ◌∷◌, ◌++◌}
use Rattle.words.specs.Command.{count_field}
use Rattle.modes.specs.Table.{modes, mode_of}
use Rattle.modes.specs.Form.{is_defined}

-- the codes below n, in rising order, of the commands from this one on that are defined
abbrev defined_from : Bool → ℕ → ℕ → List ℕ
defined_from broadcast first zero = []
defined_from broadcast first (suc n) =
    defined_from broadcast first n ++ cond (is_defined broadcast (first + n)) (n ∷ []) []

-- "which transmit bit, data word and broadcast are allowed by MIL-STD-1553B"
pub record Standard : Type 0 where
  pub own_transmit : defined_from false 0x400 32 ≡ (0 ∷ 1 ∷ 2 ∷ 3 ∷ 4 ∷ 5 ∷ 6 ∷ 7 ∷ 8 ∷ 16 ∷ 18 ∷ 19 ∷ [])
  pub own_receive : defined_from false 0 32 ≡ (17 ∷ 20 ∷ 21 ∷ [])
  pub broadcast_transmit : defined_from true 0x400 32 ≡ (1 ∷ 3 ∷ 4 ∷ 5 ∷ 6 ∷ 7 ∷ 8 ∷ [])
  pub broadcast_receive : defined_from true 0 32 ≡ (17 ∷ 20 ∷ 21 ∷ [])

pub as_the_standard : Standard
unfolding is_defined mode_of modes
as_the_standard = record { own_transmit = refl; own_receive = refl; broadcast_transmit = refl; broadcast_receive = refl }

top_bit : (bit code : ℕ) → bit < 2 → code < 32 → (0x400 * bit + code) / 1024 % 2 ≡ bit
top_bit bit code h k = omega arith

-- address and subaddress play no part: a command's form is that of its transmit bit and code
pub form_alone :
    (broadcast : Bool) (command : ℕ) →
    is_defined broadcast command ≡ is_defined broadcast (0x400 * (command / 1024 % 2) + count_field command)
unfolding is_defined
form_alone broadcast command =
    let code : (0x400 * (command / 1024 % 2) + count_field command) % 32 ≡ command % 32 = omega arith in
    rw (code, top_bit (command / 1024 % 2) (count_field command) (omega arith) (omega arith))
