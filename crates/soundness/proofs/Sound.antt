-- A cell or the stack is sound exactly where it has no fault.
use Prim.Native.Nat.{ℕ, ◌+◌, ◌%◌}
use native.Mathlib.Omega.{arith}
use mathlib.Core.Path.{◌≡◌, refl, sym, ◌∙◌}
use mathlib.Core.Bool.{Bool, true, false, not, ◌&&◌, ◌||◌}
use mathlib.Core.List.{List}
use lib.ListN.{length}
use lib.Dec.{ltb, leb, eqb}
use borrow.Author.Tests.{ne_eqb}
use Rattle.words.specs.declared.settings.Settings.{Settings}
use Rattle.windows.specs.declared.window.Window.{Window}
use Rattle.windows.specs.Window.{run_from, windows_meet, meets_fixed, fits_below}
use Rattle.cells.specs.declared.cell.Cell.{Cell}
use Rattle.cells.specs.Cell.{cell_window, double_fits, sound_cell}
use Rattle.cells.specs.Stack.{stack_pointer, stack_window, stack_sound}
use Rattle.soundness.specs.Faults.{faults_of, low_area, high_area, cell_faults, stack_faults}

fault : (n : ℕ) → (n ≡ 0 → ⊥) → false ≡ eqb n 0
fault n m = sym (ne_eqb n 0 m)

none_set :
    (a b c d e f : Bool) →
    (((a && b) && c) && not ((d || e) || f)) ≡ eqb (faults_of (not a) (not b) (not c) d e f) 0
none_set false b c d e f = fault (faults_of true (not b) (not c) d e f) (λ z. omega arith)
none_set true false c d e f = fault (faults_of false true (not c) d e f) (λ z. omega arith)
none_set true true false d e f = fault (faults_of false false true d e f) (λ z. omega arith)
none_set true true true true e f = fault (faults_of false false false true e f) (λ z. omega arith)
none_set true true true false true f = fault (faults_of false false false false true f) (λ z. omega arith)
none_set true true true false false true = refl
none_set true true true false false false = refl

pub cell_sound : (words : ℕ) (stack : Window) (c : Cell) → sound_cell words stack c ≡ eqb (cell_faults words stack c) 0
unfolding sound_cell cell_faults meets_fixed run_from
cell_sound words stack c =
    none_set
    (ltb c.pointer words)
    (fits_below (cell_window c) words)
    (double_fits c.scheme c.pointer)
    (windows_meet (cell_window c) low_area)
    (windows_meet (cell_window c) high_area)
    (windows_meet (cell_window c) stack)

regrouped : (a c d e : Bool) → (a && (c && not (d || e))) ≡ ((a && c) && not ((d || e) || false))
regrouped true c true e = refl
regrouped true c false true = refl
regrouped true c false false = refl
regrouped false c d e = refl

pub stack_sound_lem : (ram : List ℕ) (s : Settings) → stack_sound ram s ≡ eqb (stack_faults ram s) 0
unfolding stack_sound stack_faults meets_fixed run_from
stack_sound_lem ram s =
    let a : Bool = eqb (stack_pointer ram s % 4) 0 in
    let b : Bool = leb (stack_pointer ram s + 4) (length ram) in
    let c : Bool = fits_below (stack_window ram s) (length ram) in
    let d : Bool = windows_meet (stack_window ram s) low_area in
    let e : Bool = windows_meet (stack_window ram s) high_area in
    regrouped (a && b) c d e ∙ none_set a b c d e false
