-- What the whole-area check's answer tells: with 0 every listed cell is sound, with 9 the named cell is the lowest that
-- is not, and the number is the first of 1, 3, 8, 9 whose case holds.
use Prim.Native.Nat.{ℕ, ◌≤◌, ◌<◌}
use native.Mathlib.Nat.{eq-zero-or-pos}
use native.Mathlib.Omega.{arith}
use mathlib.Core.Path.{◌≡◌, sym, ◌∙◌}
use mathlib.Core.Logic.{⊎_elim}
use mathlib.Core.Bool.{Bool, true, false, not}
use mathlib.Core.List.{List}
use lib.ListN.{length}
use lib.Dec.{eqb}
use borrow.Author.Tests.{eqb-true, eq-eqb, ne_eqb, not-true, not-false}
use Rattle.words.specs.declared.settings.Settings.{Settings}
use Rattle.words.specs.Command.{subaddress_of}
use Rattle.words.specs.Number.{unsound_cell}
use Rattle.words.proofs.Basics.{and_left, and_right, yes_or_no, lt_or_ge, eq_or_ne, not_both}
use Rattle.memory.specs.Kind.{kind_of, cell_number}
use Rattle.cells.specs.Cell.{cell_at, sound_cell}
use Rattle.cells.specs.Stack.{stack_window}
use Rattle.area.specs.Area.{is_read, cell_numbered, is_unsound, lowest_unsound, LowestUnsound, area_refusal, ground_refusal, check_area}
use Rattle.cells.proofs.Sound.{CellSound, sound_cell_facts, cell_facts_sound}
use Rattle.area.proofs.Before.{AreaAccepted, ground_small, ground_stops, ground_passes, ground_accepted, accepted_ground, before_refused, before_none}
use Rattle.area.proofs.Lowest.{Lowest, lowest_is}
use Rattle.area.proofs.Listed.{read_listed, command_read, numbered_cell}

-- the cell with this number is sound
abbrev pub SoundAt : List ℕ → Settings → ℕ → Type 0
SoundAt ram s n = CellSound (length ram) (stack_window ram s) (cell_numbered ram s n)

pub record AreaFine (ram : List ℕ) (s : Settings) : Type 0 where
  pub accepted : AreaAccepted ram s
  pub cells : (n : ℕ) → is_read s n ≡ true → SoundAt ram s n

pub record AreaUnsound (ram : List ℕ) (s : Settings) (cell : ℕ) : Type 0 where
  pub accepted : AreaAccepted ram s
  pub listed : is_read s cell ≡ true
  pub unsound : SoundAt ram s cell → ⊥
  pub first : (n : ℕ) → is_read s n ≡ true → n < cell → SoundAt ram s n

module _ (ram : List ℕ) (s : Settings) where
  abbrev bad : ℕ → Bool
  bad n = is_unsound ram s (stack_window ram s) n

  found : Lowest bad 96 (lowest_unsound ram s)
  unfolding lowest_unsound
  found = lowest_is bad 96

  -- a cell that is read and not bad is sound, and the other way round
  good_sound : (n : ℕ) → is_read s n ≡ true → bad n ≡ false → SoundAt ram s n
  unfolding is_unsound
  good_sound n r b =
      let c = cell_numbered ram s n in
      let n : not (sound_cell (length ram) (stack_window ram s) c) ≡ false = rw r at b in
      sound_cell_facts (length ram) (stack_window ram s) c (not-false _ n)

  bad_listed : (n : ℕ) → bad n ≡ true → is_read s n ≡ true
  unfolding is_unsound
  bad_listed n b = and_left (is_read s n) (not (sound_cell (length ram) (stack_window ram s) (cell_numbered ram s n))) b

  bad_unsound : (n : ℕ) → bad n ≡ true → SoundAt ram s n → ⊥
  unfolding is_unsound
  bad_unsound n b f =
      let c = cell_numbered ram s n in
      let sound = sound_cell (length ram) (stack_window ram s) c in
      not_both sound (cell_facts_sound (length ram) (stack_window ram s) c f)
      (not-true sound (and_right (is_read s n) (not sound) b))

  unsound_bad : (n : ℕ) → is_read s n ≡ true → (SoundAt ram s n → ⊥) → bad n ≡ true
  unsound_bad n r h =
      ⊎_elim (λ b. b) (λ b. absurd (h (good_sound n r b))) (yes_or_no (bad n))

  pub number_positive : (n : ℕ) → is_read s n ≡ true → 0 < n
  number_positive n r = omega (arith, (read_listed s n r).low)

  -- with 0 every listed cell is sound
  pub area_fine : (check_area ram s).number ≡ 0 → AreaFine ram s
  unfolding check_area
  area_fine e =
      let g : ground_refusal ram s ≡ 0 =
      ⊎_elim (λ z. z) (λ n. absurd (n (sym (ground_stops ram s n) ∙ e))) (eq_or_ne (ground_refusal ram s) 0) in
      let z : lowest_unsound ram s ≡ 0 =
      ⊎_elim
      (λ (y : eqb (lowest_unsound ram s) 0 ≡ true). eqb-true (lowest_unsound ram s) 0 y)
      (λ (n : eqb (lowest_unsound ram s) 0 ≡ false).
      let q : area_refusal ram s ≡ unsound_cell = rw (ground_passes ram s g, n) in
      absurd (omega arith))
      (yes_or_no (eqb (lowest_unsound ram s) 0)) in
      record {
        accepted = ground_accepted ram s g;
        cells = λ n r. good_sound n r (found.none z n (number_positive n r) (read_listed s n r).below);
      }

  -- with 9 the named cell is listed and unsound, and every listed cell below it is sound
  pub area_unsound_lem : (check_area ram s).number ≡ unsound_cell → AreaUnsound ram s (check_area ram s).cell
  unfolding check_area
  area_unsound_lem e =
      let g : ground_refusal ram s ≡ 0 =
      ⊎_elim (λ z. z)
      (λ n. let q : ground_refusal ram s ≡ unsound_cell = sym (ground_stops ram s n) ∙ e in absurd (omega (arith, ground_small ram s)))
      (eq_or_ne (ground_refusal ram s) 0) in
      let z : lowest_unsound ram s ≡ 0 → ⊥ =
      λ y. let q : area_refusal ram s ≡ 0 = rw (ground_passes ram s g, eq-eqb (lowest_unsound ram s) 0 y) in omega arith in
      let p : 0 < lowest_unsound ram s = omega arith in
      rw (eq-eqb (area_refusal ram s) unsound_cell e)
      (record {
        accepted = ground_accepted ram s g;
        listed = bad_listed _ (found.found p);
        unsound = bad_unsound _ (found.found p);
        first = λ n r l. good_sound n r (found.first n (number_positive n r) l);
      })

  -- so it is the lowest of those that are read and unsound
  pub area_lowest : (check_area ram s).number ≡ unsound_cell → LowestUnsound ram s (check_area ram s).cell
  area_lowest e =
      let f = area_unsound_lem e in
      record {
        unsound = unsound_bad _ f.listed f.unsound;
        first =
            λ n l.
            ⊎_elim
            (λ (b : bad n ≡ true). absurd (bad_unsound n b (f.first n (bad_listed n b) l)))
            (λ b. b)
            (yes_or_no (bad n));
      }

  -- and the cell is 0 with every other number
  pub area_no_cell : ((check_area ram s).number ≡ unsound_cell → ⊥) → (check_area ram s).cell ≡ 0
  unfolding check_area
  area_no_cell h = rw (ne_eqb (area_refusal ram s) unsound_cell h)

  -- the other way round: the first of 1, 3 and 8 that holds is the answer
  pub ground_area : (ground_refusal ram s ≡ 0 → ⊥) → check_area ram s ≡ record { number = ground_refusal ram s; cell = 0 }
  ground_area h = sym (before_refused ram s h)

  pub fine_area : AreaFine ram s → check_area ram s ≡ record { number = 0; cell = 0 }
  fine_area f =
      let z : lowest_unsound ram s ≡ 0 =
      ⊎_elim (λ h. h)
      (λ h. absurd (bad_unsound _ (found.found h) (f.cells _ (bad_listed _ (found.found h)))))
      (eq-zero-or-pos (lowest_unsound ram s)) in
      rw (← before_none ram s (accepted_ground ram s f.accepted), eq-eqb _ _ z, z)

  pub unsound_area : (cell : ℕ) → AreaUnsound ram s cell → check_area ram s ≡ record { number = unsound_cell; cell = cell }
  unsound_area cell f =
      let p = number_positive cell f.listed in
      let b : bad cell ≡ true = unsound_bad cell f.listed f.unsound in
      let l : 0 < lowest_unsound ram s =
      ⊎_elim
      (λ (z : lowest_unsound ram s ≡ 0).
      absurd (not_both (bad cell) b (found.none z cell p (read_listed s cell f.listed).below)))
      (λ h. h)
      (eq-zero-or-pos (lowest_unsound ram s)) in
      let low : cell ≤ lowest_unsound ram s =
      ⊎_elim
      (λ (h : lowest_unsound ram s < cell).
      absurd (bad_unsound _ (found.found l) (f.first _ (bad_listed _ (found.found l)) h)))
      (λ h. h)
      (lt_or_ge (lowest_unsound ram s) cell) in
      let high : lowest_unsound ram s ≤ cell =
      ⊎_elim (λ (h : cell < lowest_unsound ram s). absurd (not_both (bad cell) b (found.first cell p h)))
      (λ h. h)
      (lt_or_ge cell (lowest_unsound ram s)) in
      let e : lowest_unsound ram s ≡ cell = omega arith in
      let some : lowest_unsound ram s ≡ 0 → ⊥ = λ z. omega arith in
      rw (← before_none ram s (accepted_ground ram s f.accepted), ne_eqb _ _ some, e)

-- with answer 0 the cell of every command at subaddresses 1 to 30 is sound
pub fine_command :
    (ram : List ℕ) (s : Settings) (command : ℕ) → AreaFine ram s → 1 ≤ subaddress_of command → subaddress_of command ≤ 30 →
    CellSound (length ram) (stack_window ram s) (cell_at ram s.area (kind_of s command) (subaddress_of command))
fine_command ram s command f l h =
    let sub = subaddress_of command in
    let kind = kind_of s command in
    rw (numbered_cell ram s kind sub (omega arith)) at (f.cells (cell_number kind sub) (command_read s command l h))
