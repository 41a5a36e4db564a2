-- For the code alone: the same answer from the plan, by arithmetic, with no list walked. `placed` shows that it is the same.
use Rattle.std.specs.Prelude.{ℕ, ◌+◌, ◌-◌, not, cond, ◌&&◌, ltb, leb, eqb}
use Rattle.words.specs.declared.settings.Settings.{Settings}
use Rattle.words.specs.declared.settings.Area.{Area}
use Rattle.windows.specs.declared.window.Window.{Window}
use Rattle.memory.specs.Map.{lookup_place, stack_pointer_place}
use Rattle.plan.specs.declared.deed.Deed.{Deed}
use Rattle.plan.specs.declared.plan.Plan.{Plan}
use Rattle.writes.specs.declared.part.Part.TheVariants.{Data, Pointer, Stack, StackPointer}
use Rattle.who_origin.specs.declared.origin.Who.{Who}
use Rattle.who_origin.specs.Origin.{written}

-- which of the four words at the stack pointer the address is, counted from 1; 0 where it is none
unfoldable pub stack_word : ℕ → ℕ → ℕ
stack_word pointer a = cond (ltb a pointer) 0 (cond (ltb (a - pointer) 4) (a - pointer + 1) 0)

-- how far the address lies behind the window's pointer, "at rising addresses, wrapping"
unfoldable pub steps_to : Window → ℕ → ℕ
steps_to w a = cond (ltb a (w.start + w.offset)) (a + w.size - (w.start + w.offset)) (a - (w.start + w.offset))

-- which of the n words from the window's pointer on the address is, counted from 1; 0 where it is none
unfoldable pub data_word : Window → ℕ → ℕ → ℕ
data_word w n a =
    cond (ltb a w.start) 0 (cond (leb (w.start + w.size) a) 0 (cond (ltb (steps_to w a) n) (steps_to w a + 1) 0))

-- who wrote the word, of the writes of a deed: the lookup pointer, then the words
unfoldable pub deed_wrote : Area → Deed → ℕ → ℕ → Who → Who
deed_wrote area d a number before =
    cond (d.moves && eqb a (lookup_place area d.cell)) (written number d.cell Pointer)
    (cond (not (eqb (data_word d.window d.stored a) 0))
    (written number d.cell (Data (data_word d.window d.stored a)))
    before)

-- who wrote the word: the parts of the list of writes, asked from its last to its first
unfoldable pub who_wrote : Settings → Plan → ℕ → ℕ → Who → Who
who_wrote s p a number before =
    cond (eqb a (stack_pointer_place s.area)) (written number p.deed.cell StackPointer)
    (cond (not (eqb (stack_word p.entry.pointer a) 0)) (written number p.deed.cell (Stack (stack_word p.entry.pointer a)))
    (deed_wrote s.area p.deed a number before))
