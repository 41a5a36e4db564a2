-- What the answers tell: when 9 refuses, how many there can be, where a cell's mark stands, and that the unsound cells
-- are those of the whole-area check.
use Prim.Native.Nat.{ℕ, ◌<◌, ◌≤◌}
use native.Mathlib.Omega.{arith}
use mathlib.Core.Path.{◌≡◌, refl, sym, ap, ◌∙◌}
use mathlib.Core.Logic.{◌⊎◌, inl, inr, ⊎_elim, ◌↔◌}
use mathlib.Core.Bool.{true, false, true≢false}
use mathlib.Core.List.{List, map}
use lib.ListN.{length, get_or, replicate, length-map}
use lib.Dec.{eqb}
use Rattle.words.specs.declared.settings.Settings.{Settings}
use Rattle.words.specs.Number.{unsound_cell}
use Rattle.words.proofs.Basics.{yes_or_no, eq_or_ne}
use Rattle.memory.specs.declared.kind.Kind.{Kind}
use Rattle.memory.specs.declared.kind.Kind.TheVariants.{Receive, Transmit, Broadcast}
use Rattle.memory.specs.Kind.{kind_numbered}
use Rattle.area.specs.Area.{ground_refusal}
use Rattle.area.proofs.Before.{ground_small}
use Rattle.memory.specs.Kind.{able_to_write}
use Rattle.label.specs.Label.{takes_part, meeting_cells, meeting_pairs, unsound_cells, sharer_numbered, no_sharer, cell_refusal, unless_refused, cell_answer, cell_label, area_pairs, area_unsound, area_answer, area_label}
use Rattle.label.proofs.Meeting.{TakesPart, part_facts, facts_part}
use Rattle.label.proofs.Refused.{ground_first, part_decides, cell_listed}
use Rattle.label.proofs.Stored.{run_front}
use Rattle.label.proofs.Most.{unsound_most, meeting_most, meeting_pairs_most}
use Rattle.label.proofs.Members.{place_of, mapped}
use Rattle.label.proofs.Shared.{Shares, listed_exactly}

-- ---- how many

fewer_refused : {A : Type 0} (n most : ℕ) (xs : List A) → length xs ≤ most → length (unless_refused n xs) ≤ most
fewer_refused n most xs h =
    ⊎_elim (λ (e : eqb n 0 ≡ true). rw e h) (λ (e : eqb n 0 ≡ false). rw e (omega arith)) (yes_or_no (eqb n 0))

module _ (ram : List ℕ) (s : Settings) where
  pub count_most : (cell : ℕ) → (cell_label ram s cell).count ≤ 89
  unfolding cell_label cell_answer
  count_most cell = fewer_refused (cell_refusal ram s cell) 89 (meeting_cells ram s cell) (meeting_most ram s cell)

  pub unsound_count_most : (area_label ram s).unsound_count ≤ 90
  unfolding area_label area_answer area_unsound
  unsound_count_most = fewer_refused (ground_refusal ram s) 90 (unsound_cells ram s) (unsound_most ram s)

  -- 4,005 = 90·89/2
  pub pair_count_most : (area_label ram s).pairs ≤ 4005
  unfolding area_label area_answer area_pairs
  pair_count_most = fewer_refused (ground_refusal ram s) 4005 (meeting_pairs ram s) (meeting_pairs_most ram s)

  -- ---- "then 9 for a one-cell listing when that cell is unsound or is none of the cells listed"

  module _ (cell : ℕ) where
    -- with 1, 3 or 8 the cell is not asked
    pub ground_refuses : (ground_refusal ram s ≡ 0 → ⊥) → cell_refusal ram s cell ≡ ground_refusal ram s
    ground_refuses h = sym (ground_first ram s cell h)

    part_zero : ground_refusal ram s ≡ 0 → takes_part ram s cell ≡ true → cell_refusal ram s cell ≡ 0
    part_zero g e = rw (part_decides ram s cell g, e)

    apart_nine : ground_refusal ram s ≡ 0 → takes_part ram s cell ≡ false → cell_refusal ram s cell ≡ unsound_cell
    apart_nine g e = rw (part_decides ram s cell g, e)

    ground_zero : (n : ℕ) → (n ≡ 0) ⊎ (n ≡ 9) → cell_refusal ram s cell ≡ n → ground_refusal ram s ≡ 0
    ground_zero n k e =
        ⊎_elim (λ z. z)
        (λ z.
        let q = ground_refuses z in
        ⊎_elim (λ f. absurd (z (omega arith))) (λ f. absurd (omega (arith, ground_small ram s))) k)
        (eq_or_ne (ground_refusal ram s) 0)

    -- nothing refuses exactly where 1, 3 and 8 do not and the cell takes part
    pub accepted_exactly :
        (cell_refusal ram s cell ≡ 0) ↔ ((ground_refusal ram s ≡ 0) × TakesPart ram s cell)
    accepted_exactly = (
      λ e.
          let g = ground_zero 0 (inl refl) e in (
            g,
            ⊎_elim (λ p. part_facts ram s cell p) (λ p. let q = apart_nine g p in absurd (omega arith))
                (yes_or_no (takes_part ram s cell)),
          ),
      λ f. part_zero f.0 (facts_part ram s cell f.1),
    )

    pub nine_exactly :
        (cell_refusal ram s cell ≡ unsound_cell) ↔ ((ground_refusal ram s ≡ 0) × (TakesPart ram s cell → ⊥))
    nine_exactly = (
      λ e.
          let g = ground_zero 9 (inr refl) e in
          (g, λ f. let q = part_zero g (facts_part ram s cell f) in absurd (omega arith)),
      λ f.
          ⊎_elim (λ p. absurd (f.1 (part_facts ram s cell p))) (λ p. apart_nine f.0 p)
          (yes_or_no (takes_part ram s cell)),
    )

  -- ---- marks

  -- the answer's cells from the first place on are the listing
  front :
      (xs : List ℕ) (k : ℕ) → length xs ≤ 89 → k < length xs →
      get_or (cell_answer 0 xs).cells k no_sharer ≡ sharer_numbered (get_or xs k 0)
  unfolding cell_answer
  front xs k h l =
      let listed = map sharer_numbered xs in
      let n : length listed ≡ length xs = length-map xs sharer_numbered in
      run_front (replicate 89 no_sharer) listed k no_sharer (omega arith) (omega arith)
      ∙ mapped sharer_numbered no_sharer xs k l

  pub record Marked (cell other : ℕ) : Type 0 where
    pub place : ℕ
    pub inside : place < (cell_label ram s cell).count
    pub marked : get_or (cell_label ram s cell).cells place no_sharer ≡ sharer_numbered other

  -- a cell that shares an address with this one stands in its label, with its mark
  pub marked_shares : ground_refusal ram s ≡ 0 → (cell other : ℕ) → Shares ram s cell other → Marked cell other
  unfolding cell_answer
  marked_shares g cell other f =
      let z = (accepted_exactly cell).1 (g, f.cell_part) in
      let label = cell_listed ram s cell 0 (sym z) refl in
      let p = place_of 0 (meeting_cells ram s cell) other ((listed_exactly ram s cell other).1 f) in
      record {
        place = p.place;
        inside = rw (← label) p.inside;
        marked =
            rw (← label)
            (front (meeting_cells ram s cell) p.place (meeting_most ram s cell) p.inside
            ∙ ap sharer_numbered p.is);
      }

-- "able to write or only to send": by kind
by_kind : (k : Kind) → (able_to_write k ≡ true) ↔ (k ≡ Transmit → ⊥)
by_kind Receive = (λ e h. let z : ◌≡◌ {A = ℕ} 0 1 = cc in omega arith, λ h. refl)
by_kind Transmit = (λ e h. true≢false (sym e), λ h. absurd (h refl))
by_kind Broadcast = (λ e h. let z : ◌≡◌ {A = ℕ} 0 1 = cc in omega arith, λ h. refl)

pub writes_exactly : (n : ℕ) → ((sharer_numbered n).writes ≡ true) ↔ (kind_numbered n ≡ Transmit → ⊥)
unfolding sharer_numbered
writes_exactly n = by_kind (kind_numbered n)
