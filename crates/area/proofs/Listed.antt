-- Which cells the whole-area check reads, and that the cell of an accepted command is one of them.
use Prim.Native.Nat.{ℕ, ◌%◌, ◌≤◌, ◌<◌}
use native.Mathlib.Omega.{arith}
use mathlib.Core.Path.{◌≡◌, refl}
use mathlib.Core.Logic.{⊎_elim}
use mathlib.Core.Bool.{Bool, true, false, cond, ◌&&◌, ◌||◌}
use mathlib.Core.List.{List}
use lib.Dec.{ltb, leb, eqb}
use borrow.Author.Tests.{ltb-true, leb-true, lt-ltb, le-ltb, le-leb}
use Rattle.words.specs.declared.settings.Settings.{Settings}
use Rattle.words.specs.Command.{address_of, transmits, subaddress_of}
use Rattle.words.specs.Settings.{is_broadcast, has_broadcast_cells}
use Rattle.words.proofs.Basics.{and_left, and_right, lt_or_ge, or_either, not_both}
use Rattle.memory.specs.declared.kind.Kind.{Kind}
use Rattle.memory.specs.declared.kind.Kind.TheVariants.{Receive, Transmit, Broadcast}
use Rattle.memory.specs.Kind.{cell_number, kind_of}
use Rattle.memory.proofs.Numbers.{number_sub, number_kind, number_below}
use Rattle.cells.specs.Cell.{cell_at}
use Rattle.area.specs.Area.{is_read, cell_numbered}

-- "subaddresses 1-30; broadcast cells are read only if separate-broadcast is on", and with broadcast off not at all
pub record Listed (s : Settings) (n : ℕ) : Type 0 where
  pub low : 1 ≤ n % 32
  pub high : n % 32 ≤ 30
  pub below : n < 96
  pub separate : 64 ≤ n → has_broadcast_cells s ≡ true

module _ (s : Settings) (n : ℕ) where
  pub read_listed : is_read s n ≡ true → Listed s n
  unfolding is_read
  read_listed e =
      let sub = leb 1 (n % 32) && leb (n % 32) 30 in
      let kind = ltb n 64 || (has_broadcast_cells s && ltb n 96) in
      let a : sub ≡ true = and_left sub kind e in
      let b : kind ≡ true = and_right sub kind e in
      let k = or_either (ltb n 64) (has_broadcast_cells s && ltb n 96) b in
      record {
        low = leb-true _ _ (and_left (leb 1 (n % 32)) (leb (n % 32) 30) a);
        high = leb-true _ _ (and_right (leb 1 (n % 32)) (leb (n % 32) 30) a);
        below =
            ⊎_elim (λ h. omega (arith, ltb-true n 64 h))
            (λ h. ltb-true n 96 (and_right (has_broadcast_cells s) (ltb n 96) h))
            k;
        separate =
            λ l.
            ⊎_elim (λ h. absurd (not_both (ltb n 64) h (le-ltb n 64 l)))
            (λ h. and_left (has_broadcast_cells s) (ltb n 96) h)
            k;
      }

  pub listed_read : Listed s n → is_read s n ≡ true
  unfolding is_read
  listed_read f =
      ⊎_elim
      (λ (h : n < 64). rw (le-leb 1 (n % 32) f.low, le-leb (n % 32) 30 f.high, lt-ltb n 64 h))
      (λ (h : 64 ≤ n).
      rw (
        le-leb 1 (n % 32) f.low,
        le-leb (n % 32) 30 f.high,
        le-ltb n 64 h,
        f.separate h,
        lt-ltb n 96 f.below,
      ))
      (lt_or_ge n 64)

-- the cell with that number is the cell of that kind and subaddress
pub numbered_cell :
    (ram : List ℕ) (s : Settings) (kind : Kind) (sub : ℕ) → sub < 32 →
    cell_numbered ram s (cell_number kind sub) ≡ cell_at ram s.area kind sub
unfolding cell_numbered
numbered_cell ram s kind sub h = rw (number_kind kind sub h, number_sub kind sub h)

-- a command uses the broadcast cell only with broadcast and separate-broadcast
separate_only :
    (transmit on high separate : Bool) →
    cond transmit Transmit (cond ((on && high) && separate) Broadcast Receive) ≡ Broadcast → (on && separate) ≡ true
separate_only true o h s e = cc
separate_only false true true true e = refl
separate_only false true true false e = cc
separate_only false true false s e = cc
separate_only false false h s e = cc

pub broadcast_separate : (s : Settings) (command : ℕ) → kind_of s command ≡ Broadcast → has_broadcast_cells s ≡ true
unfolding kind_of is_broadcast has_broadcast_cells
broadcast_separate s command e =
    separate_only (transmits command) s.broadcast (eqb (address_of command) 31) s.separate_broadcast e

broadcast_high : (kind : Kind) (sub : ℕ) → sub < 32 → 64 ≤ cell_number kind sub → kind ≡ Broadcast
unfolding cell_number
broadcast_high Receive sub h l = absurd (omega arith)
broadcast_high Transmit sub h l = absurd (omega arith)
broadcast_high Broadcast sub h l = refl

-- the check reads the cell of every command at subaddresses 1 to 30
pub command_read :
    (s : Settings) (command : ℕ) → 1 ≤ subaddress_of command → subaddress_of command ≤ 30 →
    is_read s (cell_number (kind_of s command) (subaddress_of command)) ≡ true
command_read s command l h =
    let sub = subaddress_of command in
    let kind = kind_of s command in
    let m : cell_number kind sub % 32 ≡ sub = number_sub kind sub (omega arith) in
    listed_read s (cell_number kind sub)
    (record {
      low = omega arith;
      high = omega arith;
      below = number_below kind sub (omega arith);
      separate = λ b. broadcast_separate s command (broadcast_high kind sub (omega arith) b);
    })
