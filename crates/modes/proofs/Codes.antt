-- Which codes recall, and which change a mark.
use Prim.Native.Nat.{ℕ, ◌≤◌, ◌<◌}
use native.Mathlib.Omega.{arith}
use mathlib.Core.Path.{◌≡◌, refl}
use mathlib.Core.Logic.{◌⊎◌, ⊎_map, ⊎_elim}
use mathlib.Core.Bool.{Bool, true, false, cond}
use lib.Dec.{eqb}
use borrow.Author.Tests.{eqb-true, ne_eqb}
use Rattle.modes.specs.declared.remembered.Marks.{Marks}
use Rattle.modes.specs.Remembered.{no_marks, is_shut}
use Rattle.words.specs.Command.{is_mode_subaddress}
use Rattle.words.proofs.Basics.{and_right, or_either}
use Rattle.modes.specs.Code.{code_of, recalls}
use Rattle.modes.specs.Marks.{marks_after}

-- "Transmit status word and transmit last command"
pub recalls_only : (command : ℕ) → recalls command ≡ true → (code_of command ≡ 2) ⊎ (code_of command ≡ 18)
unfolding recalls ⊎_map
recalls_only command e =
    ⊎_map (eqb-true (code_of command) 2) (eqb-true (code_of command) 18)
    (or_either (eqb (code_of command) 2) (eqb (code_of command) 18) (and_right (is_mode_subaddress command) _ e))

-- no code but 4 to 8 changes a mark
pub marks_stay : (code : ℕ) (busB : Bool) (marks : Marks) → (code < 4) ⊎ (8 < code) → marks_after code busB marks ≡ marks
unfolding marks_after
marks_stay code busB marks h =
    let other : (n : ℕ) → (4 ≤ n) × (n ≤ 8) → eqb code n ≡ false = λ n between. ne_eqb code n (λ e. ⊎_elim (λ l. omega arith) (λ g. omega arith) h) in
    rw (
      other 4 (omega arith, omega arith),
      other 5 (omega arith, omega arith),
      other 6 (omega arith, omega arith),
      other 7 (omega arith, omega arith),
      other 8 (omega arith, omega arith),
    )

-- "reset clears the three marks"
pub reset_clears : (busB : Bool) (marks : Marks) → marks_after 8 busB marks ≡ no_marks
unfolding marks_after
reset_clears busB marks = refl

open_either :
    (b busB : Bool) (x y : Marks) → is_shut x busB ≡ false → is_shut y busB ≡ false → is_shut (cond b x y) busB ≡ false
open_either true busB x y e f = e
open_either false busB x y e f = f

-- "set and cleared for the bus the command did not use": no code shuts the bus that it came on
pub own_bus_open :
    (code : ℕ) (busB : Bool) (marks : Marks) → is_shut marks busB ≡ false → is_shut (marks_after code busB marks) busB ≡ false
unfolding marks_after
own_bus_open code true marks e =
    open_either (eqb code 4) true _ _ e
    (open_either (eqb code 5) true _ _ e
    (open_either (eqb code 6) true _ _ e
    (open_either (eqb code 7) true _ _ e (open_either (eqb code 8) true _ _ refl e))))
own_bus_open code false marks e =
    open_either (eqb code 4) false _ _ e
    (open_either (eqb code 5) false _ _ e
    (open_either (eqb code 6) false _ _ e
    (open_either (eqb code 7) false _ _ e (open_either (eqb code 8) false _ _ refl e))))
