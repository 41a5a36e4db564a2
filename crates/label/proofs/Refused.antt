-- The refusals of both labels: 1, 3 and 8 first, and for one cell then 9.
use Prim.Native.Nat.{ℕ}
use mathlib.Core.Path.{◌≡◌, refl, sym}
use mathlib.Core.Bool.{true, false, not, cond}
use mathlib.Core.List.{List, [], ◌∷◌}
use lib.ListN.{length}
use lib.Seq.{sets}
use borrow.Author.Tests.{ne_eqb}
use Rattle.words.specs.declared.settings.Settings.{Settings}
use Rattle.words.specs.Number.{unsound_cell}
use Rattle.words.specs.Refusal.{◌when◌, first_of}
use Rattle.words.proofs.Refusals.{first_stops, first_passes}
use Rattle.area.specs.Area.{ground_tests, ground_refusal}
use Rattle.label.specs.Listing.{pair_words}
use Rattle.label.specs.Label.{takes_part, meeting_cells, meeting_pairs, unsound_cells, cell_refusal, cell_answer, cell_label, area_answer, area_pairs, area_unsound, area_label, pairs_into}

module _ (ram : List ℕ) (s : Settings) (cell : ℕ) where
  -- a number found before is the answer
  pub ground_first : (ground_refusal ram s ≡ 0 → ⊥) → ground_refusal ram s ≡ cell_refusal ram s cell
  unfolding ground_refusal cell_refusal
  ground_first h = sym (first_stops (ground_tests ram s) (unsound_cell when not (takes_part ram s cell) ∷ []) refl h)

  -- and else it is 9 exactly for a cell that takes no part
  pub part_decides : ground_refusal ram s ≡ 0 → cell_refusal ram s cell ≡ cond (not (takes_part ram s cell)) unsound_cell 0
  unfolding ground_refusal cell_refusal first_of
  part_decides e = first_passes (ground_tests ram s) (unsound_cell when not (takes_part ram s cell) ∷ []) refl e

  pub no_part : ground_refusal ram s ≡ 0 → takes_part ram s cell ≡ false → unsound_cell ≡ cell_refusal ram s cell
  no_part g e = rw (part_decides g, e)

  pub a_part : ground_refusal ram s ≡ 0 → takes_part ram s cell ≡ true → 0 ≡ cell_refusal ram s cell
  a_part g e = rw (part_decides g, e)

  -- the answers

  pub cell_refused : (n : ℕ) → n ≡ cell_refusal ram s cell → (n ≡ 0 → ⊥) → cell_answer n [] ≡ cell_label ram s cell
  unfolding cell_label
  cell_refused n e h = rw (← e, ne_eqb n 0 h)

  pub cell_listed :
      (n : ℕ) → n ≡ cell_refusal ram s cell → n ≡ 0 → cell_answer 0 (meeting_cells ram s cell) ≡ cell_label ram s cell
  unfolding cell_label
  cell_listed n e h = rw (← e, h)

module _ (ram : List ℕ) (s : Settings) (n : ℕ) (e : n ≡ ground_refusal ram s) where
  -- no pair and no unsound cell with a refusal
  pub area_refused : (n ≡ 0 → ⊥) → area_answer n [] 0 ≡ area_label ram s
  unfolding area_label area_pairs area_unsound
  area_refused h = rw (← e, ne_eqb n 0 h)

  pub room_kept : (n ≡ 0 → ⊥) → (room : List ℕ) → room ≡ pairs_into ram s room
  unfolding pairs_into area_pairs
  room_kept h room = rw (← e, ne_eqb n 0 h)

  pub area_listed : n ≡ 0 → area_answer 0 (unsound_cells ram s) (length (meeting_pairs ram s)) ≡ area_label ram s
  unfolding area_label area_pairs area_unsound
  area_listed h = rw (← e, h)

  pub room_filled : n ≡ 0 → (room : List ℕ) → sets room 0 (pair_words (meeting_pairs ram s)) ≡ pairs_into ram s room
  unfolding pairs_into area_pairs
  room_filled h room = rw (← e, h)
