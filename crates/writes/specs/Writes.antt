-- The one list of writes of an accepted message, in order. The list takes what is asked of each write: its place, its
-- word and its part. RAM afterwards is the list asked for places and words, applied, and nothing else touches RAM.
use Rattle.std.specs.Prelude.{ℕ, ◌+◌, cond, List, [], ◌∷◌, ◌++◌, get_or}
use Rattle.records.specs.declared.value.Record.{Record}
use Rattle.words.specs.declared.settings.Settings.{Settings}
use Rattle.memory.specs.Rows.{row}
use Rattle.memory.specs.Writes.{Write}
use Rattle.memory.specs.Map.{lookup_place, stack_pointer_place}
use Rattle.writes.specs.declared.part.Part.{Part}
use Rattle.writes.specs.declared.part.Part.TheVariants.{Pointer, Stack, StackPointer}
use Rattle.writes.specs.Asked.{as_write}
use Rattle.writes.specs.Copies.{data_list}
use Rattle.plan.specs.declared.deed.Deed.{Deed}
use Rattle.plan.specs.declared.entry.Entry.{Entry}
use Rattle.plan.specs.declared.plan.Plan.{Plan}

-- the lookup pointer, only where rule 5 moves or flips it with k > 0
unfoldable pub pointer_list : {A : Type 0} → (ℕ → ℕ → Part → A) → Settings → Deed → List A
pointer_list ask s d = cond d.moves (ask (lookup_place s.area d.cell) d.after Pointer ∷ []) []

-- rule 6: "Four stack words at the stack pointer: block status, time tag, lookup pointer before the message, command."
unfoldable pub descriptor_of : Deed → Record → List ℕ
descriptor_of d v = d.block_status ∷ v.tag ∷ d.third ∷ v.command ∷ []

unfoldable pub entry_list : {A : Type 0} → (ℕ → ℕ → Part → A) → Entry → List ℕ → List A
entry_list ask e descriptor = row (λ k. ask (e.pointer + k) (get_or descriptor k 0) (Stack (k + 1))) 4

abbrev pub stack_pointer_list : {A : Type 0} → (ℕ → ℕ → Part → A) → Settings → Entry → List A
stack_pointer_list ask s e = ask (stack_pointer_place s.area) e.after StackPointer ∷ []

-- in the order of request 6: "stored words, the lookup pointer .., four stack words, the stack pointer"
unfoldable pub deed_list : {A : Type 0} → (ℕ → ℕ → Part → A) → Settings → Deed → Record → List A
deed_list ask s d v = data_list ask d.window v.words d.stored ++ pointer_list ask s d

unfoldable pub stack_list : {A : Type 0} → (ℕ → ℕ → Part → A) → Settings → Plan → Record → List A
stack_list ask s p v = entry_list ask p.entry (descriptor_of p.deed v) ++ stack_pointer_list ask s p.entry

unfoldable pub list_of : {A : Type 0} → (ℕ → ℕ → Part → A) → Settings → Plan → Record → List A
list_of ask s p v = deed_list ask s p.deed v ++ stack_list ask s p v

-- the same, asked for what RAM takes
abbrev pub pointer_writes : Settings → Deed → List Write
pointer_writes s d = pointer_list as_write s d

abbrev pub entry_writes : Entry → List ℕ → List Write
entry_writes e descriptor = entry_list as_write e descriptor

abbrev pub stack_pointer_writes : Settings → Entry → List Write
stack_pointer_writes s e = stack_pointer_list as_write s e

abbrev pub deed_writes : Settings → Deed → Record → List Write
deed_writes s d v = deed_list as_write s d v

abbrev pub stack_writes : Settings → Plan → Record → List Write
stack_writes s p v = stack_list as_write s p v

abbrev pub writes_of : Settings → Plan → Record → List Write
writes_of s p v = list_of as_write s p v
