-- What the listings hold, in the request's words, over any RAM and settings.
use Prim.Native.Nat.{ℕ, ◌+◌, ◌<◌, ◌≤◌}
use native.Mathlib.Omega.{arith}
use mathlib.Core.Path.{◌≡◌}
use mathlib.Core.Logic.{⊎_elim, ◌↔◌}
use mathlib.Core.Bool.{true}
use mathlib.Core.List.{List}
use lib.Dec.{ltb}
use borrow.Author.Tests.{ltb-true, lt-ltb}
use Rattle.words.specs.declared.settings.Settings.{Settings}
use Rattle.words.proofs.Basics.{lt_or_ge, and_left, and_right, and_both}
use Rattle.windows.specs.declared.window.Window.{Window}
use Rattle.windows.specs.Window.{meets, windows_meet}
use Rattle.label.specs.Listing.{pair_of, pair_words}
use Rattle.label_spans.specs.Span.{window_numbered}
use Rattle.label.specs.Label.{cells_meet, meeting_cells, meeting_pairs}
use Rattle.label.proofs.Meeting.{TakesPart, part_facts, facts_part, part_below, Met, met_facts, facts_met, met_swap}
use Rattle.label.proofs.Spans.{window_there}
use Rattle.label.proofs.Members.{◌∈◌, Rising, passing_exactly, passing_rising, pairs_exactly, pairs_rising}

-- an address lies in both windows
pub record InBoth (v w : Window) : Type 0 where
  pub address : ℕ
  pub from_first : v.start ≤ address
  pub below_first : address < v.start + v.size
  pub from_second : w.start ≤ address
  pub below_second : address < w.start + w.size

-- windows that are not empty meet exactly where an address lies in both
module _ (v w : Window) where
  pub meet_both : 0 < v.size → 0 < w.size → windows_meet v w ≡ true → InBoth v w
  unfolding meets
  meet_both p q e =
      let first = ltb-true v.start (w.start + w.size) (and_left (ltb v.start (w.start + w.size)) _ e) in
      let second = ltb-true w.start (v.start + v.size) (and_right (ltb v.start (w.start + w.size)) _ e) in
      ⊎_elim
      (λ (l : v.start < w.start).
      record {
        address = w.start;
        from_first = omega arith;
        below_first = second;
        from_second = omega arith;
        below_second = omega arith;
      })
      (λ (l : w.start ≤ v.start).
      record {
        address = v.start;
        from_first = omega arith;
        below_first = omega arith;
        from_second = l;
        below_second = first;
      })
      (lt_or_ge v.start w.start)

  pub both_meet : InBoth v w → windows_meet v w ≡ true
  unfolding meets
  both_meet f =
      and_both (ltb v.start (w.start + w.size)) (ltb w.start (v.start + v.size))
      (lt-ltb v.start (w.start + w.size) (omega (arith, f.from_first, f.below_second)))
      (lt-ltb w.start (v.start + v.size) (omega (arith, f.from_second, f.below_first)))

module _ (ram : List ℕ) (s : Settings) where
  -- read and sound both, another one, and an address lies in both windows
  pub record Shares (cell other : ℕ) : Type 0 where
    pub cell_part : TakesPart ram s cell
    pub other_part : TakesPart ram s other
    pub different : other ≡ cell → ⊥
    pub shared : InBoth (window_numbered ram s cell) (window_numbered ram s other)

  met_shares : (cell other : ℕ) → Met ram s cell other → Shares cell other
  met_shares cell other f =
      record {
        cell_part = part_facts ram s cell f.cell_part;
        other_part = part_facts ram s other f.other_part;
        different = f.different;
        shared =
            meet_both (window_numbered ram s cell) (window_numbered ram s other) (window_there ram s cell)
            (window_there ram s other)
            f.windows;
      }

  shares_met : (cell other : ℕ) → Shares cell other → Met ram s cell other
  shares_met cell other f =
      record {
        cell_part = facts_part ram s cell f.cell_part;
        other_part = facts_part ram s other f.other_part;
        different = f.different;
        windows = both_meet (window_numbered ram s cell) (window_numbered ram s other) f.shared;
      }

  -- listed are exactly the cells that the test names; a cell's number is below 96
  listed_met : (cell other : ℕ) → (other ∈ meeting_cells ram s cell) ↔ Met ram s cell other
  unfolding meeting_cells
  listed_met cell other =
      let e = passing_exactly (cells_meet ram s cell) 96 other in (
        λ m. met_facts ram s cell other (e.0 m).1,
        λ f. e.1 (part_below ram s other f.other_part, facts_met ram s cell other f),
      )

  -- "every other cell whose window meets its window"
  pub listed_exactly : (cell other : ℕ) → (other ∈ meeting_cells ram s cell) ↔ Shares cell other
  listed_exactly cell other =
      let e = listed_met cell other in
      (λ m. met_shares cell other (e.0 m), λ f. e.1 (shares_met cell other f))

  -- "in rising number", and so none twice
  pub listed_rising : (cell : ℕ) → Rising (meeting_cells ram s cell)
  unfolding meeting_cells
  listed_rising cell = passing_rising (cells_meet ram s cell) 96

  swapped : (cell other : ℕ) → other ∈ meeting_cells ram s cell → cell ∈ meeting_cells ram s other
  swapped cell other m = (listed_met other cell).1 (met_swap ram s cell other ((listed_met cell other).0 m))

  -- one is in the other's listing exactly when the other is in its own
  pub listed_both_ways : (cell other : ℕ) → (other ∈ meeting_cells ram s cell) ↔ (cell ∈ meeting_cells ram s other)
  listed_both_ways cell other = (swapped cell other, swapped other cell)

  -- "each meeting pair .. lower number first": a pair is listed exactly when each is in the other's listing
  pub record BothListed (lower higher : ℕ) : Type 0 where
    pub order : lower < higher
    pub higher_listed : higher ∈ meeting_cells ram s lower
    pub lower_listed : lower ∈ meeting_cells ram s higher

  pub pair_exactly : (lower higher : ℕ) → (pair_of lower higher ∈ meeting_pairs ram s) ↔ BothListed lower higher
  unfolding meeting_pairs
  pair_exactly lower higher =
      let e = pairs_exactly (cells_meet ram s) 96 96 (pair_of lower higher) in (
        λ m.
            let f = e.0 m in
            let listed = (listed_met lower higher).1 (met_facts ram s lower higher f.test) in
            record { order = f.order; higher_listed = listed; lower_listed = swapped lower higher listed },
        λ f.
            let met = (listed_met lower higher).0 f.higher_listed in
            e.1
            (record {
              below = part_below ram s lower met.cell_part;
              order = f.order;
              inside = part_below ram s higher met.other_part;
              test = facts_met ram s lower higher met;
            }),
      )

  -- "each meeting pair once": by rising lower number, then by rising higher number
  pub pairs_in_order : Rising (pair_words (meeting_pairs ram s))
  unfolding meeting_pairs
  pairs_in_order = pairs_rising (cells_meet ram s) 96 (omega arith) 96
