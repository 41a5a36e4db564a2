-- What is found by arithmetic is what the last write of the plan's list that names the address says.
use Prim.Native.Nat.{ℕ, ◌+◌, ◌-◌, ◌≤◌, ◌<◌}
use native.Mathlib.Omega.{arith}
use native.Mathlib.Nat.{mod-eq_of_lt, mod-eq-sub-mod}
use mathlib.Core.Path.{◌≡◌, refl, sym, ◌∙◌}
use mathlib.Core.Logic.{⊎_elim}
use mathlib.Core.Bool.{Bool, true, false, not, cond, ◌&&◌}
use mathlib.Core.List.{List, [], ◌∷◌, ◌++◌}
use lib.ListN.{get_or}
use lib.Dec.{eqb}
use borrow.Author.Tests.{lt-ltb, le-ltb, le-leb, lt-leb, ne_eqb}
use Rattle.words.specs.declared.settings.Settings.{Settings}
use Rattle.words.proofs.Basics.{lt_or_ge, eq_or_ne}
use Rattle.records.specs.declared.value.Record.{Record}
use Rattle.memory.specs.Map.{lookup_place, stack_pointer_place}
use Rattle.windows.specs.declared.window.Window.{Window}
use Rattle.windows.specs.Window.{place_of}
use Rattle.windows.proofs.Wrap.{place_from, place_below, places_differ}
use Rattle.plan.specs.declared.deed.Deed.{Deed}
use Rattle.plan.specs.declared.entry.Entry.{Entry}
use Rattle.plan.specs.declared.plan.Plan.{Plan}
use Rattle.writes.specs.declared.part.Part.{Part}
use Rattle.writes.specs.declared.part.Part.TheVariants.{Data, Pointer, Stack, StackPointer}
use Rattle.writes.specs.Asked.{Planned, planned}
use Rattle.writes.specs.Copies.{data_list}
use Rattle.writes.specs.Writes.{pointer_list, descriptor_of, entry_list, stack_pointer_list, deed_list, stack_list, list_of}
use Rattle.who_origin.specs.declared.origin.Who.{Who}
use Rattle.who_origin.specs.Origin.{last_said, written, who_after}
use Rattle.who_origin.specs.Placed.{stack_word, steps_to, data_word, deed_wrote, who_wrote}
use Rattle.who_origin.proofs.Last.{last_append, row_missed, row_found}

-- ---- the words of a window

module _ (w : Window) (o : w.offset < w.size) where
  -- the steps lead to the address
  steps_there : (a : ℕ) → w.start ≤ a → a < w.start + w.size → place_of w (steps_to w a) ≡ a
  unfolding place_of steps_to
  steps_there a l h =
      ⊎_elim
      (λ (q : a < w.start + w.offset).
      let k = a + w.size - (w.start + w.offset) in
      let e : w.offset + k - w.size ≡ a - w.start = omega arith in
      let b : w.offset + k - w.size < w.size = omega arith in
      let m : w.size ≤ w.offset + k = omega arith in
      rw (lt-ltb a (w.start + w.offset) q, mod-eq-sub-mod m, mod-eq_of_lt b, e) (omega arith))
      (λ (q : w.start + w.offset ≤ a).
      let k = a - (w.start + w.offset) in
      let b : w.offset + k < w.size = omega arith in
      rw (le-ltb a (w.start + w.offset) q, mod-eq_of_lt b) (omega arith))
      (lt_or_ge a (w.start + w.offset))

  steps_few : (a : ℕ) → w.start ≤ a → a < w.start + w.size → steps_to w a < w.size
  unfolding steps_to
  steps_few a l h =
      ⊎_elim (λ (q : a < w.start + w.offset). rw (lt-ltb a (w.start + w.offset) q) (omega arith))
      (λ (q : w.start + w.offset ≤ a). rw (le-ltb a (w.start + w.offset) q) (omega arith))
      (lt_or_ge a (w.start + w.offset))

  -- and no other number of steps below the size does
  steps_only :
      (a : ℕ) (l : w.start ≤ a) (h : a < w.start + w.size) (k : ℕ) → k < w.size → a ≡ place_of w k → steps_to w a ≡ k
  steps_only a l h k b q =
      let few = steps_few a l h in
      let there = steps_there a l h in
      ⊎_elim
      (λ (x : steps_to w a < k). absurd (places_differ w (steps_to w a) k x (omega arith) (there ∙ q)))
      (λ (x : k ≤ steps_to w a).
      ⊎_elim
      (λ (y : k ≡ steps_to w a). sym y)
      (λ (y : k ≡ steps_to w a → ⊥). absurd (places_differ w k (steps_to w a) (omega arith) (omega arith) (sym q ∙ sym there)))
      (eq_or_ne k (steps_to w a)))
      (lt_or_ge (steps_to w a) k)

-- ---- part by part: a number counted from 1, or 0 where the part does not name the address

module _ {A : Type 0} (told : Part → A) (a : ℕ) (before : A) where
  abbrev says : Planned → A
  says w = told w.part

  -- what a number says, counted from 1
  abbrev counted : (ℕ → Part) → ℕ → A
  counted part n = cond (not (eqb n 0)) (told (part n)) before

  counted_one : (part : ℕ → Part) (k : ℕ) → told (part (k + 1)) ≡ counted part (k + 1)
  counted_one part k = rw (ne_eqb (k + 1) 0 (λ q. omega arith))

  module _ (w : Window) (o : w.offset < w.size) (words : List ℕ) (n : ℕ) (room : n ≤ w.size) where
    abbrev each : ℕ → Planned
    each k = planned (place_of w k) (get_or words k 0) (Data (k + 1))

    data_missed :
        ((k : ℕ) → k < n → a ≡ place_of w k → ⊥) → last_said says a (data_list planned w words n) before ≡ before
    data_missed h = row_missed says a each before n h

    -- inside the window
    data_inside :
        (l : w.start ≤ a) (h : a < w.start + w.size) →
        last_said says a (data_list planned w words n) before ≡ counted (λ k. Data k) (data_word w n a)
    unfolding data_word
    data_inside l h =
        let there = steps_there w o a l h in
        rw (le-ltb a w.start l, lt-leb (w.start + w.size) a h)
        (⊎_elim
        (λ (b : steps_to w a < n).
        rw (lt-ltb (steps_to w a) n b)
        (row_found says a each before n (steps_to w a) b (sym there)
        (λ j i m r. places_differ w (steps_to w a) j i (omega arith) (there ∙ r))
        ∙ counted_one (λ k. Data k) (steps_to w a)))
        (λ (b : n ≤ steps_to w a).
        rw (le-ltb (steps_to w a) n b)
        (data_missed (λ k i q. let same = steps_only w o a l h k (omega arith) q in omega arith)))
        (lt_or_ge (steps_to w a) n))

    data_said : last_said says a (data_list planned w words n) before ≡ counted (λ k. Data k) (data_word w n a)
    unfolding data_word
    data_said =
        ⊎_elim
        (λ (l : a < w.start).
        rw (lt-ltb a w.start l) (data_missed (λ k i q. let p = place_from w k in omega arith)))
        (λ (l : w.start ≤ a).
        ⊎_elim (data_inside l)
        (λ (h : w.start + w.size ≤ a).
        rw (le-ltb a w.start l, le-leb (w.start + w.size) a h)
        (data_missed (λ k i q. let p = place_below w k (omega arith) in omega arith)))
        (lt_or_ge a (w.start + w.size)))
        (lt_or_ge a w.start)

  if_said :
      (b : Bool) (w : Planned) → last_said says a (cond b (w ∷ []) []) before ≡ cond (b && eqb a w.at) (says w) before
  unfolding last_said
  if_said true w = refl
  if_said false w = refl

  pointer_said :
      (s : Settings) (d : Deed) →
      last_said says a (pointer_list planned s d) before
      ≡ cond (d.moves && eqb a (lookup_place s.area d.cell)) (told Pointer) before
  unfolding pointer_list
  pointer_said s d = if_said d.moves (planned (lookup_place s.area d.cell) d.after Pointer)

  module _ (e : Entry) (descriptor : List ℕ) where
    abbrev word : ℕ → Planned
    word k = planned (e.pointer + k) (get_or descriptor k 0) (Stack (k + 1))

    stack_said :
        last_said says a (entry_list planned e descriptor) before ≡ counted (λ k. Stack k) (stack_word e.pointer a)
    unfolding entry_list stack_word
    stack_said =
        let pointer = e.pointer in
        ⊎_elim
        (λ (l : a < pointer).
        rw (lt-ltb a pointer l) (row_missed says a word before 4 (λ k i q. omega arith)))
        (λ (l : pointer ≤ a).
        rw (le-ltb a pointer l)
        (⊎_elim
        (λ (h : a - pointer < 4).
        rw (lt-ltb (a - pointer) 4 h)
        (row_found says a word before 4 (a - pointer) h (omega arith) (λ j i m r. omega arith)
        ∙ counted_one (λ k. Stack k) (a - pointer)))
        (λ (h : 4 ≤ a - pointer).
        rw (le-ltb (a - pointer) 4 h) (row_missed says a word before 4 (λ k i q. omega arith)))
        (lt_or_ge (a - pointer) 4)))
        (lt_or_ge a pointer)

  top_said :
      (s : Settings) (e : Entry) →
      last_said says a (stack_pointer_list planned s e) before
      ≡ cond (eqb a (stack_pointer_place s.area)) (told StackPointer) before
  unfolding last_said
  top_said s e = refl

-- ---- the whole list

pub placed :
    (s : Settings) (p : Plan) (v : Record) (a : ℕ) →
    p.deed.window.offset < p.deed.window.size →
    p.deed.stored ≤ p.deed.window.size →
    (number : ℕ) (before : Who) →
    who_wrote s p a number before ≡ who_after a number p.deed.cell (list_of planned s p v) before
unfolding who_wrote deed_wrote list_of deed_list stack_list
placed s p v a o room number before =
    let d = p.deed in
    let e = p.entry in
    let told : Part → Who = λ part. written number d.cell part in
    let said : Planned → Who = λ w. told w.part in
    let words = data_list planned d.window v.words d.stored in
    let moved = pointer_list planned s d in
    let entered = entry_list planned e (descriptor_of d v) in
    let topped = stack_pointer_list planned s e in
    let after-words = last_said said a words before in
    let after-deed = last_said said a moved after-words in
    let after-entry = last_said said a entered after-deed in
    rw (
      last_append said a (words ++ moved) (entered ++ topped) before,
      last_append said a words moved before,
      last_append said a entered topped after-deed,
      top_said told a after-entry s e,
      stack_said told a after-deed e (descriptor_of d v),
      pointer_said told a after-words s d,
      data_said told a before d.window o v.words d.stored room,
    )
