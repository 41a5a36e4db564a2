-- What it tells that a cell takes part, and that two cells meet: named facts, and back again.
use Prim.Native.Nat.{ℕ, ◌<◌}
use mathlib.Core.Path.{◌≡◌, sym}
use mathlib.Core.Logic.{⊎_elim}
use mathlib.Core.Bool.{true, false, not, ◌&&◌}
use mathlib.Core.List.{List}
use lib.ListN.{length}
use lib.Dec.{eqb}
use borrow.Author.Tests.{eqb-false, ne_eqb, not-true}
use Rattle.words.specs.declared.settings.Settings.{Settings}
use Rattle.words.proofs.Basics.{yes_or_no, not_both, and_left, and_right, and_both}
use Rattle.windows.specs.Window.{windows_meet}
use Rattle.windows.proofs.Meets.{windows_swap}
use Rattle.cells.specs.Cell.{sound_cell}
use Rattle.cells.specs.Stack.{stack_window}
use Rattle.cells.proofs.Sound.{sound_cell_facts, cell_facts_sound}
use Rattle.area.specs.Area.{is_read, cell_numbered, is_unsound}
use Rattle.area.proofs.Listed.{read_listed}
use Rattle.area.proofs.Whole.{SoundAt}
use Rattle.label_spans.specs.Span.{window_numbered, read_and_sound}
use Rattle.label.specs.Label.{takes_part, cells_meet}

module _ (ram : List ℕ) (s : Settings) where
  -- read by the whole-area check, and sound
  pub record TakesPart (n : ℕ) : Type 0 where
    pub read : is_read s n ≡ true
    pub sound : SoundAt ram s n

  pub part_facts : (n : ℕ) → takes_part ram s n ≡ true → TakesPart n
  unfolding takes_part read_and_sound
  part_facts n e =
      let sound = sound_cell (length ram) (stack_window ram s) (cell_numbered ram s n) in
      record {
        read = and_left (is_read s n) sound e;
        sound = sound_cell_facts (length ram) (stack_window ram s) (cell_numbered ram s n) (and_right (is_read s n) sound e);
      }

  pub facts_part : (n : ℕ) → TakesPart n → takes_part ram s n ≡ true
  unfolding takes_part read_and_sound
  facts_part n f =
      and_both (is_read s n) _ f.read
      (cell_facts_sound (length ram) (stack_window ram s) (cell_numbered ram s n) f.sound)

  -- read, and not sound
  pub record Unsound (n : ℕ) : Type 0 where
    pub read : is_read s n ≡ true
    pub unsound : SoundAt ram s n → ⊥

  pub unsound_facts : (n : ℕ) → is_unsound ram s (stack_window ram s) n ≡ true → Unsound n
  unfolding is_unsound
  unsound_facts n e =
      let c = cell_numbered ram s n in
      let sound = sound_cell (length ram) (stack_window ram s) c in
      record {
        read = and_left (is_read s n) (not sound) e;
        unsound =
            λ f.
            not_both sound (cell_facts_sound (length ram) (stack_window ram s) c f)
            (not-true sound (and_right (is_read s n) (not sound) e));
      }

  pub facts_unsound : (n : ℕ) → Unsound n → is_unsound ram s (stack_window ram s) n ≡ true
  unfolding is_unsound
  facts_unsound n f =
      let c = cell_numbered ram s n in
      let sound = sound_cell (length ram) (stack_window ram s) c in
      ⊎_elim
      (λ (e : sound ≡ true). absurd (f.unsound (sound_cell_facts (length ram) (stack_window ram s) c e)))
      (λ (e : sound ≡ false). rw (f.read, e))
      (yes_or_no sound)

  pub part_below : (n : ℕ) → takes_part ram s n ≡ true → n < 96
  part_below n e = (read_listed s n (part_facts n e).read).below

  -- both take part, they are not the same cell, and their windows meet
  pub record Met (cell other : ℕ) : Type 0 where
    pub cell_part : takes_part ram s cell ≡ true
    pub other_part : takes_part ram s other ≡ true
    pub different : other ≡ cell → ⊥
    pub windows : windows_meet (window_numbered ram s cell) (window_numbered ram s other) ≡ true

  pub met_facts : (cell other : ℕ) → cells_meet ram s cell other ≡ true → Met cell other
  unfolding cells_meet
  met_facts cell other e =
      let parts = takes_part ram s cell && takes_part ram s other in
      let apart = not (eqb other cell) in
      let meet = windows_meet (window_numbered ram s cell) (window_numbered ram s other) in
      let p : parts ≡ true = and_left parts (apart && meet) e in
      let q : (apart && meet) ≡ true = and_right parts (apart && meet) e in
      record {
        cell_part = and_left (takes_part ram s cell) (takes_part ram s other) p;
        other_part = and_right (takes_part ram s cell) (takes_part ram s other) p;
        different = eqb-false other cell (not-true (eqb other cell) (and_left apart meet q));
        windows = and_right apart meet q;
      }

  pub facts_met : (cell other : ℕ) → Met cell other → cells_meet ram s cell other ≡ true
  unfolding cells_meet
  facts_met cell other f =
      rw (f.cell_part, f.other_part, ne_eqb other cell f.different, f.windows)

  pub met_swap : (cell other : ℕ) → Met cell other → Met other cell
  met_swap cell other f =
      record {
        cell_part = f.other_part;
        other_part = f.cell_part;
        different = λ e. f.different (sym e);
        windows = rw (windows_swap (window_numbered ram s other) (window_numbered ram s cell)) f.windows;
      }
