-- The unsound cells that the area's label names are those of the whole-area check: none exactly where it does not
-- answer 9, and the first is the one that it names.
use Prim.Native.Nat.{ℕ, ◌<◌}
use native.Mathlib.Nat.{eq-zero-or-pos}
use native.Mathlib.Omega.{arith}
use mathlib.Core.Path.{◌≡◌, ◌∙◌}
use mathlib.Core.Logic.{◌⊎◌, inl, inr, ⊎_elim, ◌↔◌}
use mathlib.Core.Bool.{Bool, true, false}
use mathlib.Core.List.Memᴰ
use mathlib.Core.List.{List, []}
use lib.ListN.{get_or}
use lib.Dec.{eqb}
use borrow.Author.Tests.{ne_eqb}
use Rattle.words.specs.declared.settings.Settings.{Settings}
use Rattle.words.specs.Number.{unsound_cell}
use Rattle.words.proofs.Basics.{yes_or_no, eq_or_ne}
use Rattle.cells.specs.Stack.{stack_window}
use Rattle.area.specs.Area.{is_unsound, lowest_unsound, ground_refusal, check_area}
use Rattle.area.proofs.Listed.{read_listed}
use Rattle.area.proofs.Before.{accepted_ground, ground_passes}
use Rattle.area.proofs.Whole.{area_fine, area_unsound_lem}
use Rattle.label.specs.Label.{unsound_cells, area_unsound}
use Rattle.label.proofs.Turns.{passing_none}
use Rattle.label.proofs.Meeting.{Unsound, unsound_facts, facts_unsound}
use Rattle.label.proofs.Members.{◌∈◌, Rising, at_place, place_of, passing_exactly, passing_rising}

module _ (ram : List ℕ) (s : Settings) where
  abbrev bad : ℕ → Bool
  bad n = is_unsound ram s (stack_window ram s) n

  -- named are exactly the cells that are read and unsound
  cells_exactly : (n : ℕ) → (n ∈ unsound_cells ram s) ↔ Unsound ram s n
  unfolding unsound_cells
  cells_exactly n =
      let e = passing_exactly bad 96 n in (
        λ m. unsound_facts ram s n (e.0 m).1,
        λ f. e.1 ((read_listed s n f.read).below, facts_unsound ram s n f),
      )

  passed : ground_refusal ram s ≡ 0 → area_unsound ram s ≡ unsound_cells ram s
  unfolding area_unsound
  passed g = rw g

  stopped : (ground_refusal ram s ≡ 0 → ⊥) → area_unsound ram s ≡ []
  unfolding area_unsound
  stopped h = rw (ne_eqb (ground_refusal ram s) 0 h)

  pub named_exactly : ground_refusal ram s ≡ 0 → (n : ℕ) → (n ∈ area_unsound ram s) ↔ Unsound ram s n
  named_exactly g n = rw (passed g) (cells_exactly n)

  cells_rising : Rising (unsound_cells ram s)
  unfolding unsound_cells
  cells_rising = passing_rising bad 96

  -- in rising number
  pub named_rising : Rising (area_unsound ram s)
  named_rising =
      ⊎_elim
      (λ g. rw (passed g) cells_rising)
      (λ h. rw (stopped h) (λ i j l m. absurd (omega arith)))
      (eq_or_ne (ground_refusal ram s) 0)

  -- ---- with the whole-area check

  zero_or_nine : ground_refusal ram s ≡ 0 → ((check_area ram s).number ≡ 0) ⊎ ((check_area ram s).number ≡ unsound_cell)
  unfolding check_area
  zero_or_nine g =
      ⊎_elim
      (λ (e : eqb (lowest_unsound ram s) 0 ≡ true). inl (rw (ground_passes ram s g, e)))
      (λ (e : eqb (lowest_unsound ram s) 0 ≡ false). inr (rw (ground_passes ram s g, e)))
      (yes_or_no (eqb (lowest_unsound ram s) 0))

  -- what 9 tells: its cell is named
  nine_named : (e : (check_area ram s).number ≡ unsound_cell) → (check_area ram s).cell ∈ area_unsound ram s
  nine_named e =
      let f = area_unsound_lem ram s e in
      (named_exactly (accepted_ground ram s f.accepted) (check_area ram s).cell).1
      (record { read = f.listed; unsound = f.unsound })

  fine_none : ground_refusal ram s ≡ 0 → (check_area ram s).number ≡ 0 → area_unsound ram s ≡ []
  unfolding unsound_cells
  fine_none g e =
      let sound = (area_fine ram s e).cells in
      passed g
      ∙ passing_none bad 96
      (λ k l.
      ⊎_elim
      (λ b. let f = unsound_facts ram s k b in absurd (f.unsound (sound k f.read)))
      (λ b. b)
      (yes_or_no (bad k)))

  -- no line for unsound cells exactly where the check answers 0, 1, 3 or 8
  pub none_named : (area_unsound ram s ≡ []) ↔ ((check_area ram s).number ≡ unsound_cell → ⊥)
  none_named = (
    λ e n. let m : (check_area ram s).cell ∈ [] = rw e at (nine_named n) in Memᴰ.not-nil m,
    λ h.
        ⊎_elim
        (λ g. ⊎_elim (λ z. fine_none g z) (λ n. absurd (h n)) (zero_or_nine g))
        (λ g. stopped g)
        (eq_or_ne (ground_refusal ram s) 0),
  )

  -- and the first that is named is the check's cell
  pub first_named : (check_area ram s).number ≡ unsound_cell → get_or (area_unsound ram s) 0 0 ≡ (check_area ram s).cell
  first_named e =
      let cells = area_unsound ram s in
      let f = area_unsound_lem ram s e in
      let g = accepted_ground ram s f.accepted in
      let p = place_of 0 cells (check_area ram s).cell (nine_named e) in
      ⊎_elim
      (λ (z : p.place ≡ 0). rw z at p.is)
      (λ (h : 0 < p.place).
      let first = get_or cells 0 0 in
      let u = (named_exactly g first).0 (at_place 0 cells 0 (omega (arith, p.inside))) in
      let l : first < (check_area ram s).cell = rw p.is at (named_rising 0 p.place h p.inside) in
      absurd (u.unsound (f.first first u.read l)))
      (eq-zero-or-pos p.place)
