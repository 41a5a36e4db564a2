-- The stack's block after a run is what `stack_word` says of the descriptors in their order: the last that fit, and the
-- rest as it was.
use Prim.Native.Nat.{ℕ, zero, suc, ◌+◌, ◌*◌, ◌-◌, ◌/◌, ◌%◌, ◌≤◌, ◌<◌}
use native.Mathlib.Omega.{arith}
use native.Mathlib.Nat.{mod-eq_of_lt}
use mathlib.Core.Path.{◌≡◌, refl, sym, ap, ◌∙◌}
use mathlib.Core.Logic.{⊎_elim}
use mathlib.Core.Bool.{true, false}
use mathlib.Core.List.{List, [], ◌∷◌, map}
use lib.ListN.{length, get_or}
use lib.Dec.{ltb}
use borrow.Author.Tests.{ltb-true, ltb-false}
use Rattle.words.specs.declared.settings.Settings.{Settings}
use Rattle.words.proofs.Basics.{yes_or_no}
use Rattle.windows.specs.declared.window.Window.{Window}
use Rattle.windows.specs.Window.{aligned}
use Rattle.cells.specs.Stack.{stack_pointer, stack_window}
use Rattle.windows.proofs.Wrap.{aligned_pointer, aligned_moved}
use Rattle.cells.proofs.Block.{WholeEntries, size_whole, Offset, offset_of, entry_fits, stack_nonempty}
use Rattle.message.specs.Heard.{Heard}
use Rattle.memory.specs.State.{State}
use Rattle.message.specs.Message.{step}
use Rattle.message.specs.Run.{run, effect_of, effects}
use Rattle.message.proofs.Step.{stack_moves, entry_stands, block_stays}
use Rattle.exchange.specs.Descriptors.{entries_on, last_of, stack_word}
use Rattle.exchange.proofs.StackEntries.{on, on_less, on_farthest, on_other, further, next_offset, last_on}
use Rattle.exchange.proofs.Taken.{Good, Formed, AllFormed, done, sure, good_next}

-- the descriptors of a run, in order
abbrev pub descriptors : Settings → List Heard → State → List (List ℕ)
descriptors s vs x = map (λ e. e.descriptor) (effects s vs x)

-- a block of n words from `start`, with the stack pointer at offset o, before and after m descriptors
pub record Filled (start n o : ℕ) (ds : List (List ℕ)) (before after : List ℕ) : Type 0 where
  -- the last that fit
  pub last :
      (i k : ℕ) →
      i < length ds →
      length ds ≤ i + n / 4 →
      k < 4 →
      get_or after (start + (o + 4 * i) % n + k) 0 ≡ get_or (get_or ds i []) k 0
  -- the rest as it was
  pub rest : (j : ℕ) → j < n → length ds ≤ on n o j → get_or after (start + j) 0 ≡ get_or before (start + j) 0

-- one descriptor more in front
module _
    (s : Settings)
    (v : Heard)
    (x : State)
    (start n o : ℕ)
    (g : Good s x)
    (f : Formed s v)
    (z : WholeEntries n)
    (w : stack_window x.ram s ≡ record { start = start; size = n; offset = o })
    (h : Offset n o)
  where
    abbrev after : List ℕ
    after = (step s v x).ram

    pointer_at : stack_pointer x.ram s ≡ start + o
    unfolding stack_window
    pointer_at = sym (aligned_pointer (stack_pointer x.ram s) s.stack_size) ∙ ap (λ (b : Window). b.start + b.offset) w

    next_window : stack_window after s ≡ record { start = start; size = n; offset = (o + 4) % n }
    unfolding stack_window aligned
    next_window =
        let p = stack_pointer x.ram s in
        let m = s.stack_size in
        let q : 0 < m = stack_nonempty x.ram s (sure s v x g f).agreed (sure s v x g f).stack in
        rw ((done s v x g f).ram, stack_moves x.ram s v.value (sure s v x g f))
        (aligned_moved p m 4 q ∙ ap (λ (b : Window). record { start = b.start; size = b.size; offset = (b.offset + 4) % b.size }) w)

    inside_from : (j : ℕ) → (stack_window x.ram s).start ≤ start + j
    inside_from j = rw w (omega arith)

    inside_below : (j : ℕ) → j < n → start + j < (stack_window x.ram s).start + (stack_window x.ram s).size
    inside_below j l = rw w (omega arith)

    -- a place that stands some entries on keeps its word
    place_stays : (j : ℕ) → j < n → 1 ≤ on n o j → get_or after (start + j) 0 ≡ get_or x.ram (start + j) 0
    place_stays j l i =
        rw (done s v x g f).ram
        (block_stays x.ram s v.value (sure s v x g f) (start + j) (inside_from j) (inside_below j l)
        (λ k b e. on_other n z o j k h l i b (omega (arith, pointer_at))))

    -- the entry at the pointer holds the descriptor
    place_filled : (k : ℕ) → k < 4 → get_or after (start + (o + k)) 0 ≡ get_or (effect_of s v x).descriptor k 0
    place_filled k b =
        let e : start + (o + k) ≡ stack_pointer x.ram s + k = omega (arith, pointer_at) in
        rw ((done s v x g f).ram, (done s v x g f).effect, e) (entry_stands x.ram s v.value (sure s v x g f) k b)

    -- the four words lie in the block
    entry_inside : (k : ℕ) → k < 4 → o + k < n
    entry_inside k b = omega (arith, entry_fits n z o h)

    pub one_more :
        (ds : List (List ℕ)) (end : List ℕ) →
        Filled start n ((o + 4) % n) ds after end →
        Filled start n o ((effect_of s v x).descriptor ∷ ds) x.ram end
    one_more ds end r =
        record {
          last = last;
          rest =
              λ j l m.
              let e = on_less n z o j h l (omega arith) in
              r.rest j l (omega arith) ∙ place_stays j l (omega arith);
        }
      where
        last :
            (i k : ℕ) →
            i < suc (length ds) →
            suc (length ds) ≤ i + n / 4 →
            k < 4 →
            get_or end (start + (o + 4 * i) % n + k) 0 ≡ get_or (get_or ((effect_of s v x).descriptor ∷ ds) i []) k 0
        last zero k p q b =
            let e = on_farthest n z o k h b in
            let c : o + 4 * 0 ≡ o = omega arith in
            let m : (o + 4 * 0) % n ≡ o = rw c (mod-eq_of_lt h.below) in
            let a : start + o + k ≡ start + (o + k) = omega arith in
            rw (m, a) (r.rest (o + k) (entry_inside k b) (omega arith) ∙ place_filled k b)
        last (suc i) k p q b = rw (← (further n z o i)) (r.last i k (omega arith) (omega arith) b)

-- a whole run
pub filled :
    (s : Settings) (vs : List Heard) (x : State) (start n o : ℕ) →
    Good s x →
    AllFormed s vs →
    WholeEntries n →
    stack_window x.ram s ≡ record { start = start; size = n; offset = o } →
    Offset n o →
    Filled start n o (descriptors s vs x) x.ram (run s vs x).ram
unfolding effects run
filled s [] x start n o g f z w h = record { last = λ i k p q b. absurd (omega arith); rest = λ j l m. refl }
filled s (v ∷ vs) x start n o g f z w h =
    one_more s v x start n o g f.0 z w h (descriptors s vs (step s v x)) (run s vs (step s v x)).ram
    (filled s vs (step s v x) start n ((o + 4) % n) (good_next s v x g f.0) f.1 z
    (next_window s v x start n o g f.0 z w h) (next_offset n z o h))

-- each place of the block, by the last descriptor there
word_at_lem :
    (block : Window) (ds : List (List ℕ)) (before after : List ℕ) →
    WholeEntries block.size →
    Offset block.size block.offset →
    Filled block.start block.size block.offset ds before after →
    (j : ℕ) →
    j < block.size →
    get_or after (block.start + j) 0 ≡ stack_word before block ds j
unfolding stack_word entries_on last_of
word_at_lem block ds before after z h r j l =
    let n = block.size in
    let o = block.offset in
    let m = length ds in
    ⊎_elim
    (λ (e : ltb (on n o j) m ≡ true).
    let i = on n o j + (m - 1 - on n o j) / (n / 4) * (n / 4) in
    let a = last_on n z o j m h l (ltb-true (on n o j) m e) in
    let at : block.start + (o + 4 * i) % n + j % 4 ≡ block.start + j = omega (arith, a.there) in
    rw (e, ← at) (r.last i (j % 4) a.one a.fits (omega arith)))
    (λ (e : ltb (on n o j) m ≡ false). rw e (r.rest j l (ltb-false (on n o j) m e)))
    (yes_or_no (ltb (on n o j) m))

-- the stack of a good state: whole entries, and an offset that is a multiple of 4
whole_entries : (s : Settings) (x : State) → Good s x → WholeEntries (stack_window x.ram s).size
unfolding stack_window aligned
whole_entries s x g = size_whole s g.area.accepted.settings_accepted

pointer_offset : (s : Settings) (x : State) → Good s x → Offset (stack_window x.ram s).size (stack_window x.ram s).offset
unfolding stack_window aligned
pointer_offset s x g = offset_of s.stack_size (whole_entries s x g) (stack_pointer x.ram s) g.area.accepted.stack_sound_lem.multiple

pub stack_holds :
    (s : Settings) (vs : List Heard) (x : State) →
    Good s x →
    AllFormed s vs →
    (j : ℕ) →
    j < (stack_window x.ram s).size →
    get_or (run s vs x).ram ((stack_window x.ram s).start + j) 0
    ≡ stack_word x.ram (stack_window x.ram s) (descriptors s vs x) j
stack_holds s vs x g f =
    let block = stack_window x.ram s in
    let z = whole_entries s x g in
    let h = pointer_offset s x g in
    word_at_lem block (descriptors s vs x) x.ram (run s vs x).ram z h
    (filled s vs x block.start block.size block.offset g f z refl h)

-- "The stack holds the last descriptors that fit": each of the last that the block has room for stands at its place,
-- the first at the stack pointer and each later one behind the one before, wrapping
pub last_fit :
    (s : Settings) (vs : List Heard) (x : State) →
    Good s x →
    AllFormed s vs →
    (i k : ℕ) →
    i < length (descriptors s vs x) →
    length (descriptors s vs x) ≤ i + (stack_window x.ram s).size / 4 →
    k < 4 →
    get_or (run s vs x).ram
    ((stack_window x.ram s).start + ((stack_window x.ram s).offset + 4 * i) % (stack_window x.ram s).size + k)
    0
    ≡ get_or (get_or (descriptors s vs x) i []) k 0
last_fit s vs x g f =
    let block = stack_window x.ram s in
    (filled s vs x block.start block.size block.offset g f (whole_entries s x g) refl (pointer_offset s x g)).last
