-- What a message reads, over any set of addresses: two RAMs that are equal outside the set give it the same stack pointer,
-- stack's block and target, where the tables lie outside the set, and the same words to send, where its window does.
use Prim.Native.Nat.{ℕ, zero, suc, ◌+◌, ◌≤◌, ◌<◌}
use native.Mathlib.Omega.{arith}
use mathlib.Core.Path.{◌≡◌, refl, ◌∙◌}
use mathlib.Core.List.{List}
use lib.ListN.{get_or}
use Rattle.words.specs.declared.settings.Settings.{Settings}
use Rattle.words.specs.Command.{subaddress_of}
use Rattle.words.specs.Settings.{is_own}
use Rattle.records.specs.declared.value.Record.{Record}
use Rattle.memory.specs.Map.{lookup_place, control_place, stack_pointer_place, busy_place, illegal_place, is_busy_at, is_illegal_at}
use Rattle.memory.specs.Kind.{cell_number, kind_of}
use Rattle.memory.specs.Rows.{row}
use Rattle.memory.specs.Writes.{writes_to}
use Rattle.memory.proofs.Alike.{Alike}
use Rattle.memory.proofs.Numbers.{number_below}
use Rattle.memory.proofs.Places.{lookup_between, control_between, stack_pointer_between, busy_between, illegal_between}
use Rattle.windows.specs.Window.{place_of}
use Rattle.windows.proofs.Meets.{Outside}
use Rattle.cells.specs.Stack.{stack_pointer, stack_window}
use Rattle.cells.proofs.Block.{StackSound, tables_off, illegal_off}
use Rattle.cells.proofs.Described.{cell_words_lem}
use Rattle.lookup.specs.Target.{cell_for, is_illegal, is_busy, target_of}
use Rattle.plan.specs.declared.deed.Deed.{Deed}
use Rattle.writes.specs.Reply.{sent_behind, reply_writes, reply_words}
use Rattle.message.proofs.Step.{deed_for, deed_window}

-- a command is aimed at the same where its cell, its illegal word and its busy word are the same
pub target_same :
    (m n : List ℕ) (s : Settings) (command : ℕ) →
    cell_for m s command ≡ cell_for n s command →
    get_or m (illegal_place (is_own s command) command) 0 ≡ get_or n (illegal_place (is_own s command) command) 0 →
    get_or m (busy_place (is_own s command) command) 0 ≡ get_or n (busy_place (is_own s command) command) 0 →
    target_of m s command ≡ target_of n s command
unfolding target_of is_illegal is_busy is_illegal_at is_busy_at
target_same m n s command c i b = rw (c, i, b)

writes_same :
    (place f g : ℕ → ℕ) (n : ℕ) → ((k : ℕ) → k < n → f k ≡ g k) → writes_to place f n ≡ writes_to place g n
unfolding row
writes_same place f g zero h = refl
writes_same place f g (suc n) h = rw (writes_same place f g n (λ k l. h k (omega arith)), h n (omega arith))

-- the words sent are the same where the window's words are
pub words_same :
    (m n : List ℕ) (d : Deed) →
    ((k : ℕ) → get_or m (place_of d.window k) 0 ≡ get_or n (place_of d.window k) 0) →
    reply_words m d ≡ reply_words n d
unfolding reply_words reply_writes sent_behind
words_same m n d h =
    let w = d.window in
    rw (writes_same (λ k. k + 1) (λ k. get_or m (place_of w k) 0) (λ k. get_or n (place_of w k) 0) d.sent (λ k l. h k))

-- the tables lie outside the set
pub record TablesOff (Off : ℕ → Type 0) : Type 0 where
  pub tables : (a : ℕ) → 0x100 ≤ a → a < 0x248 → Off a
  pub illegal : (a : ℕ) → 0x300 ≤ a → a < 0x400 → Off a

-- so they do of a sound stack's block
pub stack_tables_off : (ram : List ℕ) (s : Settings) → StackSound ram s → TablesOff (Outside (stack_window ram s))
stack_tables_off ram s f = record { tables = tables_off ram s f; illegal = illegal_off ram s f }

module _ (Off : ℕ → Type 0) (t : TablesOff Off) (m n : List ℕ) (e : Alike Off m n) (s : Settings) where
  table_same : (a : ℕ) → 0x100 ≤ a → a < 0x248 → get_or m a 0 ≡ get_or n a 0
  table_same a l i = e.words a (t.tables a l i)

  pub pointer_same : stack_pointer m s ≡ stack_pointer n s
  unfolding stack_pointer
  pointer_same =
      let b = stack_pointer_between s.area in table_same (stack_pointer_place s.area) (omega arith) (omega arith)

  pub block_same : stack_window m s ≡ stack_window n s
  unfolding stack_window
  block_same = rw pointer_same

  pub aim_same : (command : ℕ) → target_of m s command ≡ target_of n s command
  unfolding cell_for
  aim_same c =
      let sub = subaddress_of c in
      let number = cell_number (kind_of s c) sub in
      let l = lookup_between s.area number (number_below (kind_of s c) sub (omega arith)) in
      let k = control_between s.area sub (omega arith) in
      let b = busy_between (is_own s c) c in
      let i = illegal_between (is_own s c) c in
      target_same m n s c
      (cell_words_lem m n s.area (kind_of s c) sub (table_same (lookup_place s.area number) (omega arith) (omega arith))
      (table_same (control_place s.area sub) (omega arith) (omega arith)))
      (e.words (illegal_place (is_own s c) c) (t.illegal (illegal_place (is_own s c) c) (omega arith) (omega arith)))
      (table_same (busy_place (is_own s c) c) (omega arith) (omega arith))

  pub sends_same :
      (v : Record) → ((k : ℕ) → Off (place_of (target_of m s v.command).window k)) →
      reply_words m (deed_for m s v) ≡ reply_words n (deed_for n s v)
  sends_same v off =
      words_same m n (deed_for m s v)
      (λ k. rw (deed_window m s v) (e.words (place_of (target_of m s v.command).window k) (off k)))
      ∙ rw (aim_same v.command)
