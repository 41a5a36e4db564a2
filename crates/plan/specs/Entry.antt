-- Rule 6: the entry on the stack.
use Rattle.std.specs.Prelude.{ℕ, List}
use Rattle.words.specs.declared.settings.Settings.{Settings}
use Rattle.windows.specs.declared.window.Window.{Window}
use Rattle.windows.specs.Window.{place_of, rolls_over}
use Rattle.cells.specs.Stack.{stack_pointer, stack_window}
use Rattle.plan.specs.Motion.{pointer_to}
use Rattle.plan.specs.declared.entry.Entry.{Entry}

-- "at the stack pointer .. The stack pointer moves on by 4, wrapping."
abbrev pub entry_in : ℕ → Window → Entry
entry_in pointer block =
    record {
      pointer = pointer;
      after = pointer_to (place_of block 4);
      wrapped = rolls_over block 4;
    }

unfoldable pub entry_of : List ℕ → Settings → Entry
entry_of ram s = entry_in (stack_pointer ram s) (stack_window ram s)
