-- The whole-area check's two halves: a caller who takes its word apart has the number and the cell.
use Prim.Native.Nat.{ℕ, ◌<◌, ◌/◌, ◌%◌}
use native.Mathlib.Omega.{arith}
use mathlib.Core.Path.{◌≡◌}
use mathlib.Core.Logic.{⊎_elim}
use mathlib.Core.List.{List}
use Rattle.words.specs.declared.settings.Settings.{Settings}
use Rattle.words.specs.Number.{unsound_cell}
use Rattle.words.proofs.Basics.{eq_or_ne}
use Rattle.area.specs.Area.{check_area}
use Rattle.area.proofs.Listed.{read_listed}
use Rattle.area.proofs.Whole.{area_unsound_lem, area_no_cell}
use Rattle.c_words_areas.specs.Check.{check_word}

module _ (ram : List ℕ) (s : Settings) where
  cell_low : (check_area ram s).cell < 96
  cell_low =
      ⊎_elim
      (λ e. (read_listed s (check_area ram s).cell (area_unsound_lem ram s e).listed).below)
      (λ n. rw (area_no_cell ram s n) (omega arith))
      (eq_or_ne (check_area ram s).number unsound_cell)

  pub upper_half : check_word (check_area ram s) / 65536 ≡ (check_area ram s).number
  unfolding check_word
  upper_half = omega (arith, cell_low)

  pub lower_half : check_word (check_area ram s) % 65536 ≡ (check_area ram s).cell
  unfolding check_word
  lower_half = omega (arith, cell_low)
