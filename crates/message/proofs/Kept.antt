-- What an accepted message keeps: every cell's window, the control, illegal and busy words, and the stack's block.
-- Where the whole-area check passed before, it passes afterwards.
use Prim.Native.Nat.{ℕ, ◌%◌, ◌<◌}
use native.Mathlib.Omega.{arith}
use mathlib.Core.Path.{◌≡◌, refl, sym, ◌∙◌}
use mathlib.Core.Logic.{⊎_elim}
use mathlib.Core.Bool.{Bool}
use mathlib.Core.List.{List}
use lib.ListN.{length, get_or}
use Rattle.records.specs.declared.value.Record.{Record}
use Rattle.words.specs.declared.settings.Settings.{Settings}
use Rattle.words.specs.Command.{subaddress_of}
use Rattle.words.proofs.Basics.{eq_or_ne}
use Rattle.memory.specs.declared.kind.Kind.{Kind}
use Rattle.memory.specs.Map.{lookup_place, control_place, busy_place, illegal_place}
use Rattle.memory.specs.Kind.{kind_numbered, cell_number, kind_of}
use Rattle.cells.specs.Cell.{lookup_at, cell_from, cell_at, cell_window}
use Rattle.cells.specs.Stack.{stack_window}
use Rattle.area.specs.Area.{cell_numbered}
use Rattle.windows.proofs.Wrap.{SameRun}
use Rattle.cells.proofs.Described.{cell_words_lem}
use Rattle.cells.proofs.Sound.{CellSound, sound_block, sound_same}
use Rattle.cells.proofs.Block.{StackSound, stack_moved_same, stack_moved}
use Rattle.memory.proofs.Numbers.{number_back, number_below, number_differs}
use Rattle.area.proofs.Listed.{read_listed}
use Rattle.memory.proofs.Places.{lookup_between, control_between, stack_pointer_between, busy_between, illegal_between, lookup_differs, lookup_not_control, lookup_not_stack_pointer, control_not_stack_pointer}
use Rattle.area.proofs.Whole.{AreaFine, SoundAt}
use Rattle.lookup.specs.Target.{cell_for, target_of}
use Rattle.plan.specs.Act.{act_of}
use Rattle.plan.specs.Motion.{motion_of, moves}
use Rattle.plan.specs.Deed.{deed_with, deed_of}
use Rattle.message.proofs.Sure.{Sure}
use Rattle.plan.proofs.Contained.{single_stays, Contained, motion_contained}
use Rattle.message.proofs.Step.{after_message, deed_for, after_length, cell_low, target_sized, tables_stay, illegal_stay, stack_moves, lookup_after}

-- what one RAM keeps of another
pub record Kept (s : Settings) (ram after : List ℕ) : Type 0 where
  pub long : length after ≡ length ram
  pub stack : SameRun (stack_window after s) (stack_window ram s)
  pub control : (sub : ℕ) → sub < 32 → get_or after (control_place s.area sub) 0 ≡ get_or ram (control_place s.area sub) 0
  pub busy : (own : Bool) (command : ℕ) → get_or after (busy_place own command) 0 ≡ get_or ram (busy_place own command) 0
  pub illegal : (own : Bool) (command : ℕ) → get_or after (illegal_place own command) 0 ≡ get_or ram (illegal_place own command) 0
  pub window :
      (kind : Kind) (sub : ℕ) →
      sub < 32 →
      SameRun (cell_window (cell_at after s.area kind sub)) (cell_window (cell_at ram s.area kind sub))

pub nothing_changed : (s : Settings) (ram : List ℕ) → Kept s ram ram
nothing_changed s ram =
    record {
      long = refl;
      stack = record { start = refl; size = refl };
      control = λ sub h. refl;
      busy = λ own command. refl;
      illegal = λ own command. refl;
      window = λ kind sub h. record { start = refl; size = refl };
    }

module _ (ram : List ℕ) (s : Settings) (v : Record) (f : Sure ram s v.command) where
  abbrev after : List ℕ
  after = after_message ram s v

  abbrev number : ℕ
  number = (target_of ram s v.command).number

  -- the message's own cell moves its pointer inside its window
  pub own_contained :
      Contained (target_of ram s v.command).cell.scheme (target_of ram s v.command).cell.pointer
      (deed_for ram s v).after
  unfolding deed_of deed_with motion_of target_of
  own_contained =
      let t = target_of ram s v.command in
      let a = act_of s t v in
      motion_contained t.cell.scheme t.cell.pointer a.k
      (moves t.cell.scheme a.valid s.overwrite_invalid a.k)
      (target_sized ram s v)
      (omega (arith, f.cell.inside, f.most))
      (single_stays t.cell.scheme a.valid s.overwrite_invalid a.k)

  control_stays : (sub : ℕ) → sub < 32 → get_or after (control_place s.area sub) 0 ≡ get_or ram (control_place s.area sub) 0
  control_stays sub h =
      let b = control_between s.area sub h in
      tables_stay ram s v f (control_place s.area sub) (omega arith) (omega arith)
      (λ e. lookup_not_control s.area number sub (cell_low ram s v) (sym e))
      (control_not_stack_pointer s.area sub)

  lookup_stays :
      (cell : ℕ) →
      cell < 96 →
      (cell ≡ number → ⊥) →
      get_or after (lookup_place s.area cell) 0 ≡ get_or ram (lookup_place s.area cell) 0
  lookup_stays cell h n =
      let b = lookup_between s.area cell h in
      tables_stay ram s v f (lookup_place s.area cell) (omega arith) (omega arith)
      (λ e. n (lookup_differs s.area cell number e))
      (lookup_not_stack_pointer s.area cell h)

  -- every other cell is as it was
  pub other_cell :
      (kind : Kind) (sub : ℕ) →
      sub < 32 →
      (cell_number kind sub ≡ number → ⊥) →
      cell_at after s.area kind sub ≡ cell_at ram s.area kind sub
  other_cell kind sub h n =
      cell_words_lem after ram s.area kind sub (lookup_stays (cell_number kind sub) (number_below kind sub h) n) (control_stays sub h)

  -- its own cell has the pointer where rule 5 leaves it, and is otherwise as it was
  pub own_pointer : (cell_for after s v.command).pointer ≡ (deed_for ram s v).after
  unfolding cell_for lookup_at cell_from cell_at target_of
  own_pointer = lookup_after ram s v f

  pub own_scheme : (cell_for after s v.command).scheme ≡ (cell_for ram s v.command).scheme
  unfolding cell_for lookup_at cell_from cell_at
  own_scheme = rw (control_stays (subaddress_of v.command) (omega arith))

  pub own_window : SameRun (cell_window (cell_for after s v.command)) (cell_window (cell_for ram s v.command))
  unfolding target_of
  own_window = rw (own_scheme, own_pointer) own_contained.same

  pub own_sound : CellSound (length ram) (stack_window ram s) (cell_for after s v.command)
  unfolding target_of
  own_sound =
      let c = own_contained in
      sound_same (length ram) (stack_window ram s) (cell_for ram s v.command) (cell_for after s v.command) f.cell
      own_scheme own_window (rw own_pointer c.below)
      (λ e. rw own_pointer (c.multiple e (f.cell.double e)))

  window_stays :
      (kind : Kind) (sub : ℕ) →
      sub < 32 →
      SameRun (cell_window (cell_at after s.area kind sub)) (cell_window (cell_at ram s.area kind sub))
  unfolding target_of cell_for
  window_stays kind sub h =
      ⊎_elim
      (λ (e : cell_number kind sub ≡ number).
      let q = number_differs kind (kind_of s v.command) sub (subaddress_of v.command) h (omega arith) e in
      rw (q.0, q.1) own_window)
      (λ (n : cell_number kind sub ≡ number → ⊥). rw (other_cell kind sub h n) (record { start = refl; size = refl }))
      (eq_or_ne (cell_number kind sub) number)

  pub message_keeps : Kept s ram after
  message_keeps =
      record {
        long = after_length ram s v;
        stack = stack_moved_same ram s f.agreed f.stack after (stack_moves ram s v f);
        control = control_stays;
        busy =
            λ own command.
            let b = busy_between own command in
            let l = lookup_between s.area number (cell_low ram s v) in
            let p = stack_pointer_between s.area in
            tables_stay ram s v f (busy_place own command) (omega arith) (omega arith) (λ e. omega arith) (λ e. omega arith);
        illegal =
            λ own command.
            let b = illegal_between own command in
            illegal_stay ram s v f (illegal_place own command) (omega arith) (omega arith);
        window = window_stays;
      }

  pub stack_kept : StackSound after s
  stack_kept = stack_moved ram s f.agreed f.stack after (after_length ram s v) (stack_moves ram s v f)

  cell_kept : (n : ℕ) → n < 96 → SoundAt ram s n → SoundAt after s n
  unfolding cell_numbered cell_for target_of
  cell_kept n h c =
      let k = message_keeps in
      let sub : n % 32 < 32 = omega arith in
      let moved : CellSound (length ram) (stack_window ram s) (cell_at after s.area (kind_numbered n) (n % 32)) =
      ⊎_elim
      (λ (e : n ≡ number).
      let q =
      number_differs (kind_numbered n) (kind_of s v.command) (n % 32) (subaddress_of v.command) sub (omega arith)
      (number_back n h ∙ e) in
      rw (q.0, q.1) own_sound)
      (λ (e : n ≡ number → ⊥).
      rw (other_cell (kind_numbered n) (n % 32) sub (λ q. e (sym (number_back n h) ∙ q))) c)
      (eq_or_ne n number) in
      rw k.long (sound_block (length ram) (stack_window ram s) (cell_numbered after s n) moved (stack_window after s) k.stack)

-- where the whole-area check passes, it passes after an accepted message
pub fine_kept :
    (ram : List ℕ) (s : Settings) (v : Record) → Sure ram s v.command → AreaFine ram s → AreaFine (after_message ram s v) s
fine_kept ram s v f a =
    record {
      accepted =
          record {
            ram_accepted = rw (after_length ram s v) a.accepted.ram_accepted;
            settings_accepted = a.accepted.settings_accepted;
            stack_sound_lem = stack_kept ram s v f;
          };
      cells = λ n r. cell_kept ram s v f n (read_listed s n r).below (a.cells n r);
    }
