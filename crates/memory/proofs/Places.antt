-- Where the places of the memory map lie, that RAM has them, that they differ, and that no ordinary address is one of
-- them.
use Prim.Native.Nat.{ℕ, ◌≤◌, ◌<◌}
use native.Mathlib.Omega.{arith}
use Rattle.std.proofs.Common.{rules}
use mathlib.Core.Path.{◌≡◌}
use mathlib.Core.Bool.{Bool, false}
use Rattle.words.specs.declared.settings.Area.{Area}
use Rattle.words.specs.declared.settings.Area.TheVariants.{A, B}
use Rattle.memory.specs.declared.kind.Kind.{Kind}
use Rattle.memory.specs.declared.kind.Kind.TheVariants.{Receive, Transmit, Broadcast}
use Rattle.memory.specs.Map.{ram_refused, stack_pointer_place, lookup_table, lookup_place, control_place, busy_place, illegal_place}
use Rattle.memory.specs.Kind.{kind_number}

pub record Between (low high x : ℕ) : Type 0 where
  pub from : low ≤ x
  pub to : x ≤ high

pub table_between : (area : Area) → Between 0x140 0x1C0 (lookup_table area)
unfolding lookup_table
table_between A = omega arith
table_between B = omega arith

pub table_low : (area : Area) → lookup_table area ≤ 0x1C0
table_low area = (table_between area).to

pub kind_low : (kind : Kind) → kind_number kind ≤ 2
kind_low Receive = omega arith
kind_low Transmit = omega arith
kind_low Broadcast = omega arith

-- the lookup words, the control words, the stack pointers and the busy words lie in 0100-0247
pub lookup_between : (area : Area) (cell : ℕ) → cell < 96 → Between 0x140 0x21F (lookup_place area cell)
lookup_between area cell h = omega (arith, table_between area)

pub control_between : (area : Area) (sub : ℕ) → sub < 32 → Between 0x1A0 0x23F (control_place area sub)
control_between area sub h = omega (arith, table_between area)

pub stack_pointer_between : (area : Area) → Between 0x100 0x104 (stack_pointer_place area)
unfolding stack_pointer_place
stack_pointer_between A = omega arith
stack_pointer_between B = omega arith

pub busy_between : (own : Bool) (command : ℕ) → Between 0x240 0x247 (busy_place own command)
unfolding busy_place
busy_between own command = search rules

-- the illegal words in 0300-03FF
pub illegal_between : (own : Bool) (command : ℕ) → Between 0x300 0x3FF (illegal_place own command)
unfolding illegal_place
illegal_between own command = search rules

-- different cells have different lookup words, and no lookup word is a control word or the stack pointer
pub lookup_differs : (area : Area) (i j : ℕ) → lookup_place area i ≡ lookup_place area j → i ≡ j
lookup_differs area i j e = omega arith

pub lookup_not_control :
    (area : Area) (cell sub : ℕ) → cell < 96 → lookup_place area cell ≡ control_place area sub → ⊥
lookup_not_control area cell sub h e = omega arith

pub lookup_not_stack_pointer :
    (area : Area) (cell : ℕ) → cell < 96 → lookup_place area cell ≡ stack_pointer_place area → ⊥
lookup_not_stack_pointer area cell h e =
    omega (arith, lookup_between area cell h, stack_pointer_between area)

pub control_not_stack_pointer :
    (area : Area) (sub : ℕ) → control_place area sub ≡ stack_pointer_place area → ⊥
control_not_stack_pointer area sub e = omega (arith, table_between area, stack_pointer_between area)

-- RAM of an accepted length has all the fixed areas, and a 16-bit word holds each of its addresses
pub ram_between : (words : ℕ) → ram_refused words ≡ false → (0x400 ≤ words) × (words ≤ 65536)
unfolding ram_refused
ram_between words e = search rules

-- an address that is in RAM and in no fixed area
pub record OrdinaryAddress (words x : ℕ) : Type 0 where
  pub inside : x < words
  pub tables : 0x100 ≤ x → x < 0x248 → ⊥
  pub illegal : 0x300 ≤ x → x < 0x400 → ⊥

-- no ordinary address is a place of the map
module _ (words x : ℕ) (f : OrdinaryAddress words x) where
  not_tables : (p : ℕ) → 0x100 ≤ p → p ≤ 0x247 → p ≡ x → ⊥
  not_tables p l h e = search rules

  pub ordinary_not_lookup : (area : Area) (cell : ℕ) → cell < 96 → lookup_place area cell ≡ x → ⊥
  ordinary_not_lookup area cell h =
      let b = lookup_between area cell h in not_tables (lookup_place area cell) (omega arith) (omega arith)

  pub ordinary_not_control : (area : Area) (sub : ℕ) → sub < 32 → control_place area sub ≡ x → ⊥
  ordinary_not_control area sub h =
      let b = control_between area sub h in not_tables (control_place area sub) (omega arith) (omega arith)

  pub ordinary_not_stack_pointer : (area : Area) → stack_pointer_place area ≡ x → ⊥
  ordinary_not_stack_pointer area =
      let b = stack_pointer_between area in not_tables (stack_pointer_place area) (omega arith) (omega arith)

  pub ordinary_not_busy : (own : Bool) (command : ℕ) → busy_place own command ≡ x → ⊥
  ordinary_not_busy own command =
      let b = busy_between own command in not_tables (busy_place own command) (omega arith) (omega arith)

  pub ordinary_not_illegal : (own : Bool) (command : ℕ) → illegal_place own command ≡ x → ⊥
  ordinary_not_illegal own command e =
      let b = illegal_between own command in f.illegal (omega arith) (omega arith)
