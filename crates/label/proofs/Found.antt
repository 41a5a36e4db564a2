-- The listing by numbers: what it tells of a cell that is refused, of one that is not, and of the label.
use Prim.Native.Nat.{ℕ, ◌≤◌}
use mathlib.Core.Path.{◌≡◌, sym, ◌∙◌}
use mathlib.Core.Bool.{true, false}
use mathlib.Core.List.{List}
use lib.ListN.{length, take, replicate, length-replicate}
use lib.Seq.{sets, length-sets, length-take-le}
use borrow.Author.Tests.{ne_eqb}
use Rattle.words.specs.declared.settings.Settings.{Settings}
use Rattle.memory.specs.Map.{ram_refused}
use Rattle.area.proofs.Before.{ground_accepted}
use Rattle.label.specs.declared.one.Counted.{Counted}
use Rattle.label.specs.declared.one.CellLabel.{CellLabel}
use Rattle.label.specs.Listing.{front}
use Rattle.label.specs.Label.{takes_part, meeting_cells, cell_refusal, sharers_of, counted_of, cell_answer, cell_label}
use Rattle.label.proofs.Meeting.{facts_part}
use Rattle.label.proofs.Turns.{front_back, front_take}
use Rattle.label.proofs.Answers.{accepted_exactly, count_most}

module _ (ram : List ℕ) (s : Settings) (cell n : ℕ) (e : n ≡ cell_refusal ram s cell) where
  pub counted_refused :
      (room : List ℕ) → (n ≡ 0 → ⊥) →
      (record { number = n; count = 0 } ≡ counted_of ram s cell) × (room ≡ sets room 0 (sharers_of ram s cell))
  unfolding counted_of
  counted_refused room h = (rw (← e, ne_eqb n 0 h), rw (← e, ne_eqb n 0 h))

  pub counted_found :
      (room numbers : List ℕ) (count : ℕ) → n ≡ 0 → numbers ≡ sets room 0 (meeting_cells ram s cell) →
      count ≡ length (meeting_cells ram s cell) →
      (record { number = n; count = count } ≡ counted_of ram s cell) × (numbers ≡ sets room 0 (sharers_of ram s cell))
  unfolding counted_of
  counted_found room numbers count z p q = (rw (← e, z, q), rw (← e, z) p)

  -- a cell that is not refused takes part
  pub found_part : n ≡ 0 → (ram_refused (length ram) ≡ false) × (takes_part ram s cell ≡ true)
  found_part z =
      let f = (accepted_exactly ram s cell).0 (sym e ∙ z) in
      ((ground_accepted ram s f.0).ram_accepted, facts_part ram s cell f.1)

-- the label that is made of it
module _ (ram : List ℕ) (s : Settings) (cell : ℕ) where
  pub sharers_most : length (sharers_of ram s cell) ≤ 89
  unfolding cell_label cell_answer
  sharers_most = count_most ram s cell

  module _ (c : Counted) (e : c ≡ counted_of ram s cell) where
    pub counted_most : c.count ≤ 89
    unfolding counted_of
    counted_most = rw e sharers_most

    module _ (numbers : List ℕ) (p : numbers ≡ sets (replicate 89 0) 0 (sharers_of ram s cell)) where
      pub counted_front : front numbers c.count ≡ sharers_of ram s cell
      unfolding counted_of
      counted_front = rw (e, p, front_back (replicate 89 0) (sharers_of ram s cell) (rw length-replicate sharers_most))

      pub counted_take : take c.count numbers ≡ sharers_of ram s cell
      counted_take = sym (front_take numbers c.count (rw (p, length-sets, length-replicate) counted_most)) ∙ counted_front

      pub take_fits : c.count ≤ length numbers
      take_fits = rw (p, length-sets, length-replicate) counted_most

      pub take_long : c.count ≡ length (take c.count numbers)
      take_long = sym (length-take-le c.count numbers take_fits)

      pub take_most : length (take c.count numbers) ≤ 89
      take_most = rw counted_take sharers_most

      pub counted_label :
          (l : CellLabel) → l ≡ cell_answer c.number (take c.count numbers) → l ≡ cell_label ram s cell
      unfolding counted_of cell_label
      counted_label l q = q ∙ rw (counted_take, e)
