-- What settings that are not refused say, and whose a command is.
use Prim.Native.Nat.{ℕ, ◌≤◌}
use native.Mathlib.Omega.{arith}
use mathlib.Core.Path.{◌≡◌, sym}
use mathlib.Core.Logic.{◌⊎◌, inl, inr, ⊎_elim}
use mathlib.Core.Bool.{Bool, true, false, not, cond, ◌||◌, true≢false, and-true}
use lib.Dec.{ltb, eqb}
use borrow.Author.Tests.{ltb-false, eqb-true, ne_eqb, not-false}
use Rattle.words.specs.declared.settings.Settings.{Settings}
use Rattle.words.specs.Command.{address_of}
use Rattle.words.specs.Settings.{stack_size_listed, highest_address, settings_refused, is_own, is_broadcast, is_not_ours, has_broadcast_cells}
use Rattle.std.proofs.lemmas.Bool.{cases_Bool}
use Rattle.words.proofs.Basics.{or_either, or_left, or_right}

abbrev pub ListedSize : ℕ → Type 0
ListedSize n = ((n ≡ 256) ⊎ (n ≡ 512)) ⊎ ((n ≡ 1024) ⊎ (n ≡ 2048))

-- "RT address over 30 with broadcast on, over 31 with it off", and a stack size that is listed
pub record Agreed (s : Settings) : Type 0 where
  pub address : s.address ≤ 31
  pub low : s.broadcast ≡ true → s.address ≤ 30
  pub size : ListedSize s.stack_size

listed : (n : ℕ) → stack_size_listed n ≡ true → ListedSize n
unfolding stack_size_listed
listed n e =
    ⊎_elim
    (λ low.
    inl (⊎_elim (λ q. inl (eqb-true n 256 q)) (λ q. inr (eqb-true n 512 q)) (or_either (eqb n 256) (eqb n 512) low)))
    (λ high.
    inr
    (⊎_elim (λ q. inl (eqb-true n 1024 q)) (λ q. inr (eqb-true n 2048 q)) (or_either (eqb n 1024) (eqb n 2048) high)))
    (or_either (eqb n 256 || eqb n 512) (eqb n 1024 || eqb n 2048) e)

highest : (on : Bool) (a : ℕ) → a ≤ cond on 30 31 → (a ≤ 31) × (on ≡ true → a ≤ 30)
highest true a h = (omega arith, λ e. h)
highest false a h = (h, λ e. absurd (true≢false (sym e)))

pub settings_agreed : (s : Settings) → settings_refused s ≡ false → Agreed s
unfolding settings_refused
settings_agreed s e =
    let over = ltb (highest_address s) s.address in
    let h = highest s.broadcast s.address (ltb-false (highest_address s) s.address (or_left over _ e)) in
    record {
      address = h.0;
      low = h.1;
      size = listed s.stack_size (not-false (stack_size_listed s.stack_size) (or_right over _ e));
    }

-- a command that is ours has the terminal's own address or is a broadcast
pub ours : (s : Settings) (command : ℕ) → is_not_ours s command ≡ false → (is_own s command ≡ true) ⊎ (is_broadcast s command ≡ true)
unfolding is_not_ours
ours s command e =
    ⊎_elim
    (λ own. inl own)
    (λ other. inr (not-false (is_broadcast s command) (rw other at e)))
    (cases_Bool (is_own s command))

-- and never both
pub own_or_broadcast :
    (s : Settings) (command : ℕ) → settings_refused s ≡ false → is_own s command ≡ true → is_broadcast s command ≡ false
unfolding is_own is_broadcast
own_or_broadcast s command e own =
    let q = eqb-true (address_of command) s.address own in
    ⊎_elim
    (λ (on : s.broadcast ≡ true).
    let a = (settings_agreed s e).low on in
    rw (on, ne_eqb (address_of command) 31 (λ x. omega arith)))
    (λ (off : s.broadcast ≡ false). rw off)
    (cases_Bool s.broadcast)

-- with broadcast on, exactly the commands to 31 are broadcasts
pub broadcasts_on : (s : Settings) (command : ℕ) → s.broadcast ≡ true → is_broadcast s command ≡ eqb (address_of command) 31
unfolding is_broadcast
broadcasts_on s command on = rw on

-- "When it is off, .. no message is a broadcast", and no cell a broadcast cell
pub broadcasts_off : (s : Settings) (command : ℕ) → s.broadcast ≡ false → is_broadcast s command ≡ false
unfolding is_broadcast
broadcasts_off s command off = rw off

pub cells_off : (s : Settings) → s.broadcast ≡ false → has_broadcast_cells s ≡ false
unfolding has_broadcast_cells
cells_off s off = rw off

-- "When it is off, 31 is an ordinary address, own if the settings say 31": ours are the commands to our own address
pub ours_off : (s : Settings) (command : ℕ) → s.broadcast ≡ false → is_not_ours s command ≡ not (eqb (address_of command) s.address)
unfolding is_not_ours is_own
ours_off s command off = rw (broadcasts_off s command off, and-true)
