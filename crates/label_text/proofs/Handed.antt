-- The lines made of what the label's functions hand over are the label's text.
use Prim.Native.Nat.{ℕ, ◌+◌, ◌*◌, ◌/◌, ◌%◌, ◌<◌, ◌≤◌}
use native.Mathlib.Omega.{arith}
use mathlib.Core.Path.{◌≡◌, refl, sym, ap, ◌∙◌}
use mathlib.Core.List.Memᴰ
use mathlib.Core.List.{List, [], ◌∷◌, map, flat_map}
use lib.ListN.{length, take, drop, replicate, length-map}
use lib.Seq.{sets, length-sets, sets-eq, take-append_seam}
use borrow.Author.Tests.{eq-eqb, ne_eqb}
use Rattle.words.specs.declared.settings.Settings.{Settings}
use Rattle.area.specs.Area.{ground_refusal}
use Rattle.label.specs.declared.one.CellLabel.{CellLabel}
use Rattle.label.specs.declared.whole.AreaLabel.{AreaLabel}
use Rattle.label.specs.Listing.{Pair, pair_word, pair_words}
use Rattle.label.specs.Label.{cells_meet, meeting_cells, meeting_pairs, unsound_cells, sharer_numbered, no_sharer, cell_refusal, cell_answer, cell_label, area_answer, area_label, pairs_into}
use Rattle.label.proofs.Members.{◌∈◌, pairs_exactly}
use Rattle.label.proofs.Refused.{cell_listed, area_listed, room_filled}
use Rattle.label.proofs.Most.{unsound_most, meeting_most, meeting_pairs_most}
use Rattle.label.proofs.Answers.{count_most, unsound_count_most, pair_count_most}
use Rattle.wording.specs.Wording.{meet_line, refused_line}
use Rattle.label_text.specs.Printed.{pair_line, area_lines, area_text, cell_lines, one_cell_text, word_line, AreaFits, lines_of, CellFits, cell_lines_of}

-- a run that fits is taken back out
run_taken : {A : Type 0} (l xs : List A) → length xs ≤ length l → take (length xs) (sets l 0 xs) ≡ xs
run_taken l xs h = rw (sets-eq xs l 0 (omega arith)) (take-append_seam xs (drop (0 + length xs) l))

-- ---- lines of equal words

lines_same :
    {A : Type 0} (f g : A → List ℕ) (xs : List A) → ((x : A) → x ∈ xs → f x ≡ g x) → flat_map f xs ≡ flat_map g xs
unfolding flat_map
lines_same f g [] h = refl
lines_same f g (x ∷ xs) h =
    rw (h x (Memᴰ.head refl), lines_same f g xs (λ y m. h y (Memᴰ.tail m)))

lines_map : {A B : Type 0} (f : B → List ℕ) (g : A → B) (xs : List A) → flat_map f (map g xs) ≡ flat_map (λ x. f (g x)) xs
unfolding flat_map
lines_map f g [] = refl
lines_map f g (x ∷ xs) = rw (lines_map f g xs)

-- a pair is read back from its word
word_line_lem : (p : Pair) → p.higher < 256 → word_line (pair_word p) ≡ pair_line p
word_line_lem p h =
    let l : (256 * p.lower + p.higher) / 256 ≡ p.lower = omega arith in
    let r : (256 * p.lower + p.higher) % 256 ≡ p.higher = omega arith in
    rw (l, r)

module _ (ram : List ℕ) (s : Settings) where
  pairs_lines : flat_map word_line (pair_words (meeting_pairs ram s)) ≡ flat_map pair_line (meeting_pairs ram s)
  unfolding meeting_pairs
  pairs_lines =
      lines_map word_line pair_word (meeting_pairs ram s)
      ∙ lines_same (λ p. word_line (pair_word p)) pair_line (meeting_pairs ram s)
      (λ p m. word_line_lem p (omega (arith, ((pairs_exactly (cells_meet ram s) 96 96 p).0 m).inside)))

  -- ---- the whole area

  module _ (room pairs : List ℕ) (label : AreaLabel) (z : length room ≡ 4005) (e : label ≡ area_label ram s) (f : pairs ≡ pairs_into ram s room) where
    pub area_number : label.number ≡ ground_refusal ram s
    unfolding area_label area_answer
    area_number = rw e

    pub area_fits : AreaFits label pairs
    unfolding area_label area_answer pairs_into
    area_fits =
        let words : length pairs ≡ length room = rw (f, length-sets) in
        let cells : length label.unsound ≡ 90 = rw (e, length-sets) in
        record {
          pairs_there = rw e (omega (arith, words, pair_count_most ram s));
          unsound_there = omega (arith, cells, unsound_count_most ram s, ap (λ (l : AreaLabel). l.unsound_count) e);
        }

    -- what is counted, taken from the front, is the listing
    pairs_taken : ground_refusal ram s ≡ 0 → take (length (meeting_pairs ram s)) pairs ≡ pair_words (meeting_pairs ram s)
    pairs_taken g =
        let listed = meeting_pairs ram s in
        let n : length (pair_words listed) ≡ length listed = length-map listed pair_word in
        let filled : pairs ≡ sets room 0 (pair_words listed) =
        f ∙ sym (room_filled ram s (ground_refusal ram s) refl g room) in
        rw (filled, ← n) (run_taken room (pair_words listed) (omega (arith, meeting_pairs_most ram s)))

    pub area_printed : label.number ≡ 0 → lines_of label pairs ≡ area_text ram s
    unfolding lines_of area_text area_lines area_answer
    area_printed h =
        let g = sym area_number ∙ h in
        let label_is = e ∙ sym (area_listed ram s (ground_refusal ram s) refl g) in
        rw (label_is, pairs_taken g, pairs_lines, run_taken (replicate 90 0) (unsound_cells ram s) (unsound_most ram s), eq-eqb _ _ g)

    pub area_refused_text : (label.number ≡ 0 → ⊥) → refused_line label.number ≡ area_text ram s
    unfolding area_text
    area_refused_text h = rw (← area_number, ne_eqb label.number 0 h)

  -- ---- one cell

  module _ (cell : ℕ) (label : CellLabel) (e : label ≡ cell_label ram s cell) where
    pub cell_number_lem : label.number ≡ cell_refusal ram s cell
    unfolding cell_label cell_answer
    cell_number_lem = rw e

    pub cell_fits : CellFits label
    unfolding cell_label cell_answer
    cell_fits =
        let cells : length label.cells ≡ 89 = rw (e, length-sets) in
        record {
          few = rw e (count_most ram s cell);
          there = omega (arith, cells, count_most ram s cell, ap (λ (l : CellLabel). l.count) e);
        }

    pub cell_printed : label.number ≡ 0 → cell_lines_of cell label ≡ one_cell_text ram s cell
    unfolding cell_lines_of one_cell_text cell_lines cell_answer
    cell_printed h =
        let g = sym cell_number_lem ∙ h in
        let listed = meeting_cells ram s cell in
        let label_is = e ∙ sym (cell_listed ram s cell (cell_refusal ram s cell) refl g) in
        let n : length (map sharer_numbered listed) ≡ length listed = length-map listed sharer_numbered in
        let taken : take (length listed) (sets (replicate 89 no_sharer) 0 (map sharer_numbered listed)) ≡ map sharer_numbered listed =
        rw (← n) (run_taken (replicate 89 no_sharer) (map sharer_numbered listed) (omega (arith, meeting_most ram s cell))) in
        rw (label_is, taken, lines_map (meet_line (sharer_numbered cell)) sharer_numbered listed, eq-eqb _ _ g)

    pub cell_refused_text : (label.number ≡ 0 → ⊥) → refused_line label.number ≡ one_cell_text ram s cell
    unfolding one_cell_text
    cell_refused_text h = rw (← cell_number_lem, ne_eqb label.number 0 h)
