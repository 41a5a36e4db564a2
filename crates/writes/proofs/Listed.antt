-- The one list of writes: whatever is asked of each write is asked of the same list; and what holds of every write.
use Prim.Native.Nat.{ℕ, ◌+◌, ◌<◌}
use mathlib.Core.Path.{◌≡◌, refl}
use mathlib.Core.Bool.{Bool, true, false, cond}
use mathlib.Core.List.{[], ◌∷◌, ◌++◌, map, map-append}
use lib.ListN.{get_or}
use Rattle.words.specs.declared.settings.Settings.{Settings}
use Rattle.records.specs.declared.value.Record.{Record}
use Rattle.memory.specs.Map.{lookup_place, stack_pointer_place}
use Rattle.memory.specs.Rows.{row, Each}
use Rattle.memory.proofs.Rows.{map_row, each_append, each_row}
use Rattle.windows.specs.Window.{place_of}
use Rattle.plan.specs.declared.plan.Plan.{Plan}
use Rattle.writes.specs.declared.part.Part.{Part}
use Rattle.writes.specs.declared.part.Part.TheVariants.{Data, Pointer, Stack, StackPointer}
use Rattle.writes.specs.Asked.{Planned, planned}
use Rattle.writes.specs.Copies.{data_list}
use Rattle.writes.specs.Writes.{pointer_list, descriptor_of, entry_list, stack_pointer_list, deed_list, stack_list, list_of}

map_if : {A B : Type 0} (g : A → B) (b : Bool) (x : A) → map g (cond b (x ∷ []) []) ≡ cond b (g x ∷ []) []
map_if g true x = refl
map_if g false x = refl

each_if : {A : Type 0} (P : A → Type 0) (b : Bool) (x : A) → (b ≡ true → P x) → Each P (cond b (x ∷ []) [])
each_if P true x h = (h refl, tt)
each_if P false x h = tt

-- what is asked of the answers is asked of the writes
pub asked_again :
    {A B : Type 0} (g : A → B) (ask : ℕ → ℕ → Part → A) (s : Settings) (p : Plan) (v : Record) →
    map g (list_of ask s p v) ≡ list_of (λ at word part. g (ask at word part)) s p v
unfolding list_of deed_list stack_list entry_list pointer_list
asked_again g ask s p v = rw (map-append, map-append, map-append, map_row, map_row, map_if)

-- so every question is one about the list of place, word and part
pub list_asked :
    {A : Type 0} (ask : ℕ → ℕ → Part → A) (s : Settings) (p : Plan) (v : Record) →
    list_of ask s p v ≡ map (λ w. ask w.at w.word w.part) (list_of planned s p v)
list_asked ask s p v = rw (asked_again (λ (w : Planned). ask w.at w.word w.part) planned s p v)

-- what holds of each kind of write holds of all
module _ {A : Type 0} (P : A → Type 0) (ask : ℕ → ℕ → Part → A) (s : Settings) (p : Plan) (v : Record) where
  pub each_listed :
      ((k : ℕ) → k < p.deed.stored → P (ask (place_of p.deed.window k) (get_or v.words k 0) (Data (k + 1)))) →
      P (ask (lookup_place s.area p.deed.cell) p.deed.after Pointer) →
      ((k : ℕ) → k < 4 → P (ask (p.entry.pointer + k) (get_or (descriptor_of p.deed v) k 0) (Stack (k + 1)))) →
      P (ask (stack_pointer_place s.area) p.entry.after StackPointer) →
      Each P (list_of ask s p v)
  unfolding list_of deed_list stack_list entry_list pointer_list
  each_listed stored pointer stack top =
      let d = p.deed in
      let e = p.entry in
      let words = data_list ask d.window v.words d.stored in
      let moved = cond d.moves (ask (lookup_place s.area d.cell) d.after Pointer ∷ []) [] in
      let entered = row (λ k. ask (e.pointer + k) (get_or (descriptor_of d v) k 0) (Stack (k + 1))) 4 in
      let topped = stack_pointer_list ask s e in
      each_append P (words ++ moved) (entered ++ topped)
      (each_append P words moved
      (each_row P (λ k. ask (place_of d.window k) (get_or v.words k 0) (Data (k + 1))) d.stored stored)
      (each_if P d.moves (ask (lookup_place s.area d.cell) d.after Pointer) (λ m. pointer)))
      (each_append P entered topped
      (each_row P (λ k. ask (e.pointer + k) (get_or (descriptor_of d v) k 0) (Stack (k + 1))) 4 stack)
      (top, tt))
