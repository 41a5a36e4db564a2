-- With broadcast off no broadcast cell is listed, paired or named.
use Prim.Native.Nat.{ℕ, ◌<◌}
use mathlib.Core.Path.{◌≡◌}
use mathlib.Core.Bool.{false}
use mathlib.Core.List.{List}
use Rattle.words.specs.declared.settings.Settings.{Settings}
use Rattle.area.proofs.BroadcastOff.{read_low}
use Rattle.cells.specs.Stack.{stack_window}
use Rattle.area.specs.Area.{is_unsound}
use Rattle.label.specs.Listing.{pair_of}
use Rattle.label.specs.Label.{meeting_cells, meeting_pairs, unsound_cells}
use Rattle.label.proofs.Meeting.{TakesPart, unsound_facts}
use Rattle.label.proofs.Members.{◌∈◌, passing_exactly}
use Rattle.label.proofs.Shared.{listed_exactly, pair_exactly}

module _ (ram : List ℕ) (s : Settings) (off : s.broadcast ≡ false) where
  part_low : (n : ℕ) → TakesPart ram s n → n < 64
  part_low n f = read_low s off n f.read

  pub listed_low : (cell other : ℕ) → other ∈ meeting_cells ram s cell → (cell < 64) × (other < 64)
  listed_low cell other m =
      let f = (listed_exactly ram s cell other).0 m in
      (part_low cell f.cell_part, part_low other f.other_part)

  pub paired_low : (lower higher : ℕ) → pair_of lower higher ∈ meeting_pairs ram s → (lower < 64) × (higher < 64)
  paired_low lower higher m = listed_low lower higher ((pair_exactly ram s lower higher).0 m).higher_listed

  pub named_low : (n : ℕ) → n ∈ unsound_cells ram s → n < 64
  unfolding unsound_cells
  named_low n m =
      let e = (passing_exactly (is_unsound ram s (stack_window ram s)) 96 n).0 m in
      read_low s off n (unsound_facts ram s n e.1).read
