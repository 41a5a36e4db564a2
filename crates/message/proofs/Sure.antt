-- What the tests before an accepted message have shown of RAM: its length is that of a RAM, and the stack and the
-- message's cell are sound.
use Prim.Native.Nat.{ℕ, ◌≤◌}
use mathlib.Core.Path.{◌≡◌, refl}
use mathlib.Core.Bool.{false}
use mathlib.Core.List.{List}
use lib.ListN.{length}
use borrow.Author.Tests.{not-false}
use Rattle.words.specs.declared.settings.Settings.{Settings}
use Rattle.words.specs.Command.{is_mode_subaddress}
use Rattle.words.specs.Number.{ram_length, bad_settings, unsound_stack, unsound_cell}
use Rattle.words.specs.Settings.{settings_refused}
use Rattle.words.proofs.Commands.{data_subaddress}
use Rattle.words.proofs.Refusals.{accepted}
use Rattle.memory.specs.State.{State}
use Rattle.memory.proofs.Places.{ram_between}
use Rattle.cells.specs.Cell.{sound_cell}
use Rattle.cells.specs.Stack.{stack_window, stack_sound}
use Rattle.cells.proofs.Sound.{CellSound, sound_cell_facts}
use Rattle.cells.proofs.Block.{StackSound, stack_sound_facts}
use Rattle.area.proofs.Whole.{AreaFine, fine_command}
use Rattle.lookup.specs.Target.{cell_for}
use Rattle.message.specs.Heard.{Heard}
use Rattle.message.specs.Tests.{cell_unsound, tests_for, refusal_for}

pub record Sure (ram : List ℕ) (s : Settings) (command : ℕ) : Type 0 where
  pub long : 0x400 ≤ length ram
  pub most : length ram ≤ 65536
  pub agreed : settings_refused s ≡ false
  pub stack : StackSound ram s
  pub cell : CellSound (length ram) (stack_window ram s) (cell_for ram s command)

-- a message that no number refuses
pub accepted_sure :
    (s : Settings) (h : Heard) (x : State) → refusal_for s h x ≡ 0 → Sure x.ram s h.value.command
unfolding refusal_for cell_unsound
accepted_sure s h x e =
    let ram = x.ram in
    let c = cell_for ram s h.value.command in
    let a = accepted (tests_for s h x) refl e in
    let l = ram_between (length ram) (a ram_length) in
    record {
      long = l.0;
      most = l.1;
      agreed = a bad_settings;
      stack = stack_sound_facts ram s (not-false (stack_sound ram s) (a unsound_stack));
      cell =
          sound_cell_facts (length ram) (stack_window ram s) c
          (not-false (sound_cell (length ram) (stack_window ram s) c) (a unsound_cell));
    }

-- where the whole-area check passes, every data message
pub fine_sure :
    (ram : List ℕ) (s : Settings) (command : ℕ) → AreaFine ram s → is_mode_subaddress command ≡ false → Sure ram s command
unfolding cell_for
fine_sure ram s command f e =
    let d = data_subaddress command e in
    let l = ram_between (length ram) f.accepted.ram_accepted in
    record {
      long = l.0;
      most = l.1;
      agreed = f.accepted.settings_accepted;
      stack = f.accepted.stack_sound_lem;
      cell = fine_command ram s command f d.from d.to;
    }
