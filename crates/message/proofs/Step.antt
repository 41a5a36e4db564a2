-- An accepted message, word by word: RAM afterwards at each address.
use Prim.Native.Nat.{ℕ, ◌+◌, ◌≤◌, ◌<◌}
use native.Mathlib.Omega.{arith}
use mathlib.Core.Path.{◌≡◌, refl, sym, ◌∙◌}
use mathlib.Core.Logic.{◌⊎◌, inl, inr, ⊎_elim}
use mathlib.Core.Bool.{true, false}
use mathlib.Core.List.{List}
use lib.ListN.{length, get_or}
use lib.Seq.{get_or-set_same, get_or-set_other}
use Rattle.records.specs.declared.value.Record.{Record}
use Rattle.words.specs.declared.settings.Settings.{Settings}
use Rattle.words.specs.Command.{transmits, subaddress_of}
use Rattle.words.proofs.Basics.{yes_or_no}
use Rattle.memory.specs.Map.{lookup_place, stack_pointer_place}
use Rattle.windows.specs.Window.{place_of}
use Rattle.memory.specs.Kind.{kind_of}
use Rattle.cells.specs.Cell.{lookup_at, cell_from, cell_at, cell_window}
use Rattle.cells.specs.Stack.{stack_pointer, stack_window}
use Rattle.windows.proofs.Wrap.{place_from, place_below, places_differ}
use Rattle.windows.proofs.Meets.{Outside}
use Rattle.cells.proofs.Sizes.{Sized, cell_sized, window_room, window_nonempty}
use Rattle.cells.proofs.Sound.{sound_address, sound_place}
use Rattle.cells.proofs.Block.{stack_nonempty, stack_word_from, stack_word_below, stack_address, tables_off, illegal_off}
use Rattle.memory.proofs.Numbers.{number_below}
use Rattle.memory.proofs.Places.{lookup_between, stack_pointer_between, lookup_not_stack_pointer, ordinary_not_lookup, ordinary_not_stack_pointer}
use Rattle.plan.specs.declared.deed.Deed.{Deed}
use Rattle.lookup.specs.Target.{cell_for, target_of}
use Rattle.plan.specs.Act.{words_stored, act_with, act_of}
use Rattle.plan.specs.Motion.{motion_with, motion_of}
use Rattle.words.specs.declared.remembered.Remembered.{Remembered}
use Rattle.plan.specs.declared.plan.Plan.{Plan}
use Rattle.words.specs.Remembered.{nothing_remembered}
use Rattle.plan.specs.Plan.{plan_with, plan_from, plan_of}
use Rattle.plan.specs.Deed.{deed_with, deed_of}
use Rattle.plan.specs.Entry.{entry_of}
use Rattle.plan.proofs.Reach.{deed_stored}
use Rattle.plan.proofs.Contained.{pointer_exact}
use Rattle.writes.specs.Copies.{data_writes}
use Rattle.writes.specs.Writes.{pointer_list, descriptor_of, entry_list, deed_list, stack_list, list_of, pointer_writes, entry_writes, stack_pointer_writes, deed_writes, stack_writes, writes_of}
use Rattle.memory.specs.Rows.{row}
use Rattle.memory.specs.Writes.{apply_writes, writes_to}
use Rattle.memory.proofs.Writes.{apply_append, length_apply}
use Rattle.memory.proofs.Footprint.{Avoids, untouched, avoids_append, avoids_places, written}
use Rattle.message.proofs.Sure.{Sure}

-- the deed of a data message: what is remembered plays no part in it
abbrev pub deed_for : List ℕ → Settings → Record → Deed
deed_for ram s v = deed_of s (target_of ram s v.command) v

abbrev pub made_plan : List ℕ → Settings → Remembered → Record → Plan
made_plan ram s before v = plan_from before v (deed_for ram s v) (entry_of ram s)

pub plan_made :
    (s : Settings) (ram : List ℕ) (before : Remembered) (v : Record) → plan_of s ram before v ≡ made_plan ram s before v
unfolding plan_of
plan_made s ram before v = refl

pub deed_made :
    (s : Settings) (ram : List ℕ) (before : Remembered) (v : Record) → (plan_of s ram before v).deed ≡ deed_for ram s v
unfolding plan_of plan_with
deed_made s ram before v = refl

-- RAM after an accepted message, and after its deed alone; it is the same whatever was remembered
abbrev a_plan : List ℕ → Settings → Record → Plan
a_plan ram s v = made_plan ram s nothing_remembered v

abbrev pub after_message : List ℕ → Settings → Record → List ℕ
after_message ram s v = apply_writes (writes_of s (a_plan ram s v) v) ram

pub after_made :
    (s : Settings) (ram : List ℕ) (before : Remembered) (v : Record) →
    apply_writes (writes_of s (plan_of s ram before v) v) ram ≡ after_message ram s v
unfolding plan_of plan_with list_of stack_list
after_made s ram before v = refl

abbrev pub after_deed : List ℕ → Settings → Record → List ℕ
after_deed ram s v = apply_writes (deed_writes s (deed_for ram s v) v) ram

module _ (ram : List ℕ) (s : Settings) (v : Record) where
  after_parts :
      after_message ram s v ≡ apply_writes (stack_writes s (a_plan ram s v) v) (after_deed ram s v)
  unfolding list_of plan_with
  after_parts = apply_append (deed_writes s (deed_for ram s v) v) (stack_writes s (a_plan ram s v) v) ram

  pub after_length : length (after_message ram s v) ≡ length ram
  after_length = length_apply (writes_of s (a_plan ram s v) v) ram

  pub deed_length : length (after_deed ram s v) ≡ length ram
  deed_length = length_apply (deed_writes s (deed_for ram s v) v) ram

  -- the deed's window is the target's
  pub deed_window : (deed_for ram s v).window ≡ (target_of ram s v.command).window
  unfolding deed_of deed_with
  deed_window = refl

  -- the cell's number is one of the lookup table's
  pub cell_low : (target_of ram s v.command).number < 96
  unfolding target_of
  cell_low = number_below (kind_of s v.command) (subaddress_of v.command) (omega arith)

  pub target_sized : Sized (target_of ram s v.command).cell.scheme
  unfolding target_of cell_for
  target_sized = cell_sized ram s.area (kind_of s v.command) (subaddress_of v.command)

  pub target_some : 0 < (target_of ram s v.command).window.size
  unfolding target_of
  target_some = window_nonempty (cell_for ram s v.command).scheme (cell_for ram s v.command).pointer (target_sized)

  -- "Receive stores ..": a transmit stores nothing
  pub stored_none : transmits v.command ≡ true → (deed_for ram s v).stored ≡ 0
  unfolding deed_of deed_with act_of act_with words_stored
  stored_none e = rw e

  pub pointer_read :
      (target_of ram s v.command).cell.pointer
      ≡ get_or ram (lookup_place s.area (target_of ram s v.command).number) 0
  unfolding target_of cell_for lookup_at cell_from cell_at
  pointer_read = refl

  stays : (deed_for ram s v).moves ≡ false → (deed_for ram s v).after ≡ (target_of ram s v.command).cell.pointer
  unfolding deed_of deed_with motion_of motion_with
  stays e = rw e

  data_avoids :
      (a : ℕ) →
      (transmits v.command ≡ true) ⊎ Outside (target_of ram s v.command).window a →
      Avoids a (data_writes (target_of ram s v.command).window v.words (deed_for ram s v).stored)
  unfolding row
  data_avoids a (inl e) = rw (stored_none e) tt
  data_avoids a (inr h) =
      let w = (target_of ram s v.command).window in
      avoids_places a (place_of w) (λ k. get_or v.words k 0) (deed_for ram s v).stored
      (λ k l q. h (rw q (place_from w k)) (rw q (place_below w k target_some)))

  lookup_avoids :
      (a : ℕ) →
      (a ≡ lookup_place s.area (target_of ram s v.command).number → ⊥) →
      Avoids a (pointer_writes s (deed_for ram s v))
  unfolding pointer_list deed_of deed_with
  lookup_avoids a h =
      let d = deed_for ram s v in
      ⊎_elim (λ e. rw e (h, tt)) (λ e. rw e tt) (yes_or_no d.moves)

  -- a deed writes only words of its cell's window, if it stores, and the cell's lookup word
  pub deed_avoids :
      (a : ℕ) →
      (a ≡ lookup_place s.area (target_of ram s v.command).number → ⊥) →
      (transmits v.command ≡ true) ⊎ Outside (target_of ram s v.command).window a →
      Avoids a (deed_writes s (deed_for ram s v) v)
  unfolding deed_list deed_of deed_with
  deed_avoids a h w =
      let d = deed_for ram s v in
      avoids_append a (data_writes d.window v.words d.stored) (pointer_writes s d) (data_avoids a w)
      (lookup_avoids a h)

  module _ (f : Sure ram s v.command) where
    -- an entry writes only words of the stack's block and the stack pointer
    pub entry_avoids :
        (a : ℕ) →
        Outside (stack_window ram s) a →
        (a ≡ stack_pointer_place s.area → ⊥) →
        Avoids a (stack_writes s (a_plan ram s v) v)
    unfolding stack_list entry_list plan_with entry_of
    entry_avoids a h p =
        avoids_append a (entry_writes (entry_of ram s) (descriptor_of (deed_for ram s v) v)) (stack_pointer_writes s (entry_of ram s))
        (avoids_places a (λ k. stack_pointer ram s + k) (λ k. get_or (descriptor_of (deed_for ram s v) v) k 0) 4
        (λ k l q.
        h (rw q (stack_word_from ram s f.agreed f.stack k l))
        (rw q (stack_word_below ram s f.agreed f.stack k l))))
        (p, tt)

    -- outside the stack and the stack pointer, RAM afterwards is what the deed leaves
    pub beyond_stack :
        (a : ℕ) →
        Outside (stack_window ram s) a →
        (a ≡ stack_pointer_place s.area → ⊥) →
        get_or (after_message ram s v) a 0 ≡ get_or (after_deed ram s v) a 0
    beyond_stack a h p =
        rw after_parts (untouched a (stack_writes s (a_plan ram s v) v) (after_deed ram s v) (entry_avoids a h p))

    -- so every word that is none of these stays
    pub elsewhere :
        (a : ℕ) →
        (a ≡ lookup_place s.area (target_of ram s v.command).number → ⊥) →
        (transmits v.command ≡ true) ⊎ Outside (target_of ram s v.command).window a →
        Outside (stack_window ram s) a →
        (a ≡ stack_pointer_place s.area → ⊥) →
        get_or (after_message ram s v) a 0 ≡ get_or ram a 0
    elsewhere a l w h p =
        beyond_stack a h p ∙ untouched a (deed_writes s (deed_for ram s v) v) ram (deed_avoids a l w)

    -- no address of the memory map's tables lies in the window
    pub tables_outside : (a : ℕ) → 0x100 ≤ a → a < 0x248 → Outside (target_of ram s v.command).window a
    unfolding target_of
    tables_outside a l h i j =
        (sound_address (length ram) (stack_window ram s) (cell_for ram s v.command) f.cell a i j).ordinary.tables l h

    pub illegal_outside : (a : ℕ) → 0x300 ≤ a → a < 0x400 → Outside (target_of ram s v.command).window a
    unfolding target_of
    illegal_outside a l h i j =
        (sound_address (length ram) (stack_window ram s) (cell_for ram s v.command) f.cell a i j).ordinary.illegal l h

    -- the words of the tables stay, but for the lookup word and the stack pointer
    pub tables_stay :
        (a : ℕ) →
        0x100 ≤ a →
        a < 0x248 →
        (a ≡ lookup_place s.area (target_of ram s v.command).number → ⊥) →
        (a ≡ stack_pointer_place s.area → ⊥) →
        get_or (after_message ram s v) a 0 ≡ get_or ram a 0
    tables_stay a l h q p = elsewhere a q (inr (tables_outside a l h)) (tables_off ram s f.stack a l h) p

    pub illegal_stay : (a : ℕ) → 0x300 ≤ a → a < 0x400 → get_or (after_message ram s v) a 0 ≡ get_or ram a 0
    illegal_stay a l h =
        let p = stack_pointer_between s.area in
        let q = lookup_between s.area (target_of ram s v.command).number cell_low in
        elsewhere a (λ e. omega arith) (inr (illegal_outside a l h)) (illegal_off ram s f.stack a l h) (λ e. omega arith)

    -- "The stack pointer moves on by 4, wrapping."
    pub stack_moves : stack_pointer (after_message ram s v) s ≡ place_of (stack_window ram s) 4
    unfolding stack_pointer stack_list apply_writes plan_with entry_of
    stack_moves =
        let p = stack_pointer_between s.area in
        let e = entry_of ram s in
        let m = apply_writes (entry_writes e (descriptor_of (deed_for ram s v) v)) (after_deed ram s v) in
        let l : stack_pointer_place s.area < length m =
        rw (length_apply, deed_length) (omega (arith, f.long)) in
        let w = stack_window ram s in
        let b = place_below w 4 (stack_nonempty ram s f.agreed f.stack) in
        rw (after_parts, apply_append)
        (get_or-set_same m (stack_pointer_place s.area) e.after 0 l
        ∙ pointer_exact (place_of w 4) (omega (arith, f.stack.inside, f.most)))

    -- "Four stack words at the stack pointer"
    pub entry_stands :
        (k : ℕ) →
        k < 4 →
        get_or (after_message ram s v) (stack_pointer ram s + k) 0 ≡ get_or (descriptor_of (deed_for ram s v) v) k 0
    unfolding stack_list entry_list apply_writes plan_with entry_of
    entry_stands k h =
        let d = descriptor_of (deed_for ram s v) v in
        let from = stack_word_from ram s f.agreed f.stack k h in
        let below = stack_word_below ram s f.agreed f.stack k h in
        let o = stack_address ram s f.stack (stack_pointer ram s + k) from below in
        let place : ℕ → ℕ = λ i. stack_pointer ram s + i in
        let word : ℕ → ℕ = λ i. get_or d i 0 in
        let m = apply_writes (writes_to place word 4) (after_deed ram s v) in
        let l : place k < length (after_deed ram s v) = rw deed_length o.inside in
        rw (after_parts, apply_append)
        (get_or-set_other m (stack_pointer_place s.area) (place k) (entry_of ram s).after 0
        (λ q. ordinary_not_stack_pointer (length ram) (place k) o s.area (sym q))
        ∙ written place word 4 k (after_deed ram s v) h l (λ j a b q. omega arith))

    -- the cell's lookup word is where rule 5 leaves the pointer
    pub lookup_after :
        get_or (after_message ram s v) (lookup_place s.area (target_of ram s v.command).number) 0
        ≡ (deed_for ram s v).after
    unfolding deed_list pointer_list apply_writes deed_of deed_with
    lookup_after =
        let d = deed_for ram s v in
        let number = (target_of ram s v.command).number in
        let a = lookup_place s.area number in
        let b = lookup_between s.area number cell_low in
        let words = data_writes d.window v.words d.stored in
        let m = apply_writes words ram in
        let l : a < length m = rw length_apply (omega (arith, f.long)) in
        let e =
        beyond_stack a (tables_off ram s f.stack a (omega arith) (omega arith)) (lookup_not_stack_pointer s.area number cell_low) in
        let g = apply_append words (pointer_writes s d) ram in
        ⊎_elim
        (λ (moved : d.moves ≡ true). e ∙ rw (g, moved) (get_or-set_same m a d.after 0 l))
        (λ (kept : d.moves ≡ false).
        e
        ∙ rw (g, kept)
        (untouched a words ram (data_avoids a (inr (tables_outside a (omega arith) (omega arith))))
        ∙ sym (stays kept ∙ pointer_read)))
        (yes_or_no d.moves)

    -- "from the lookup pointer on, at rising addresses, wrapping": each word stored stands at its place of the window
    pub stored_stands :
        (k : ℕ) →
        k < (deed_for ram s v).stored →
        get_or (after_message ram s v) (place_of (target_of ram s v.command).window k) 0 ≡ get_or v.words k 0
    unfolding deed_list deed_of deed_with plan_with target_of
    stored_stands k h =
        let d = deed_for ram s v in
        let c = cell_for ram s v.command in
        let w = cell_window c in
        let a = place_of w k in
        let o = sound_place (length ram) (stack_window ram s) c f.cell target_sized k in
        let room = window_room c.scheme c.pointer target_sized in
        let few = deed_stored s (target_of ram s v.command) v in
        let words = data_writes w v.words d.stored in
        beyond_stack a o.stack (λ q. ordinary_not_stack_pointer (length ram) a o.ordinary s.area (sym q))
        ∙ rw (apply_append words (pointer_writes s d) ram)
        (untouched a (pointer_writes s d) (apply_writes words ram)
        (lookup_avoids a
        (λ q. ordinary_not_lookup (length ram) a o.ordinary s.area (target_of ram s v.command).number cell_low (sym q)))
        ∙ written (place_of w) (λ i. get_or v.words i 0) d.stored k ram h o.ordinary.inside
        (λ j l b. places_differ w k j l (omega arith)))

    -- no word of the window lies in the stack's block
    block_outside :
        (a : ℕ) →
        (stack_window ram s).start ≤ a →
        a < (stack_window ram s).start + (stack_window ram s).size →
        Outside (target_of ram s v.command).window a
    unfolding target_of
    block_outside a l h i j =
        (sound_address (length ram) (stack_window ram s) (cell_for ram s v.command) f.cell a i j).stack l h

    -- a word of the stack's block that is none of the entry's four stays
    pub block_stays :
        (a : ℕ) →
        (stack_window ram s).start ≤ a →
        a < (stack_window ram s).start + (stack_window ram s).size →
        ((k : ℕ) → k < 4 → a ≡ stack_pointer ram s + k → ⊥) →
        get_or (after_message ram s v) a 0 ≡ get_or ram a 0
    unfolding stack_list entry_list plan_with entry_of
    block_stays a l h n =
        let o = stack_address ram s f.stack a l h in
        let e = entry_of ram s in
        let d = descriptor_of (deed_for ram s v) v in
        rw after_parts
        (untouched a (stack_writes s (a_plan ram s v) v) (after_deed ram s v)
        (avoids_append a (entry_writes e d) (stack_pointer_writes s e)
        (avoids_places a (λ k. stack_pointer ram s + k) (λ k. get_or d k 0) 4 n)
        (λ q. ordinary_not_stack_pointer (length ram) a o s.area (sym q), tt))
        ∙ untouched a (deed_writes s (deed_for ram s v) v) ram
        (deed_avoids a (λ q. ordinary_not_lookup (length ram) a o s.area (target_of ram s v.command).number cell_low (sym q))
        (inr (block_outside a l h))))
