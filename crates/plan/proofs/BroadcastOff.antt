-- The status word has the RT address whole, 31 too; and with broadcast off a message to 31 is one like all others:
-- "own" is yes, bit 4 of the status stays 0, and no transmit has a contents fault.
use Prim.Native.Nat.{ℕ, ◌+◌, ◌*◌, ◌/◌, ◌%◌}
use native.Mathlib.Omega.{arith}
use mathlib.Core.Path.{◌≡◌}
use mathlib.Core.Logic.{⊎_elim}
use mathlib.Core.Bool.{Bool, true, false, not, ◌||◌}
use mathlib.Core.List.{List, [], ◌∷◌}
use Rattle.words.specs.declared.settings.Settings.{Settings}
use Rattle.words.specs.Bits.{bits_of, word_of}
use Rattle.words.specs.Settings.{settings_refused, is_own, is_broadcast, is_not_ours}
use Rattle.words.proofs.Basics.{not_both}
use Rattle.words.proofs.BitLaws.{bit_small}
use Rattle.words.proofs.SettingsLaws.{settings_agreed, broadcasts_off, ours}
use Rattle.records.specs.declared.value.Record.{Record}
use Rattle.faults.specs.Fault.{faults_of, faults_for}
use Rattle.lookup.specs.declared.target.Target.{Target}
use Rattle.lookup.specs.Target.{target_of}
use Rattle.plan.specs.Report.{status_bits, status_word}
use Rattle.plan.proofs.StatusBits.{status_bits_low}

-- "15-11 RT address"
pub status_address :
    (s : Settings) (t : Target) (valid : Bool) → settings_refused s ≡ false → status_word s t valid / 2048 ≡ s.address
unfolding status_word
status_address s t valid e = omega (arith, status_bits_low s t valid, (settings_agreed s e).address)

bit_four :
    (n : ℕ) (a b c d e f g h i j : Bool) →
    (0x0800 * n
    + word_of (false ∷ false ∷ false ∷ false ∷ false ∷ a ∷ b ∷ c ∷ d ∷ e ∷ f ∷ false ∷ g ∷ h ∷ i ∷ j ∷ []))
    / 16
    % 2
    ≡ 0
unfolding bits_of
bit_four n a b c d e f g h i j = omega (arith, bit_small g, bit_small h, bit_small i, bit_small j)

-- "4 broadcast"
pub status_plain :
    (s : Settings) (t : Target) (valid : Bool) → t.broadcast ≡ false → status_word s t valid / 16 % 2 ≡ 0
unfolding status_word status_bits
status_plain s t valid e =
    rw e
    (bit_four (s.address % 32) (not valid || t.illegal) false s.service_request false false false t.busy
    s.subsystem_flag false s.terminal_flag)

module _ (s : Settings) (off : s.broadcast ≡ false) where
  -- ""own" is 1 for the terminal's own address and 0 for broadcast.": of what is taken all is own
  pub own_off : (command : ℕ) → is_not_ours s command ≡ false → is_own s command ≡ true
  own_off command e =
      ⊎_elim
      (λ own. own)
      (λ sent. absurd (not_both (is_broadcast s command) sent (broadcasts_off s command off)))
      (ours s command e)

  pub target_off : (ram : List ℕ) (command : ℕ) → (target_of ram s command).broadcast ≡ false
  unfolding target_of
  target_off ram command = broadcasts_off s command off

  -- "Contents fault: a broadcast transmit."
  pub contents_off : (ram : List ℕ) (v : Record) → (faults_for (target_of ram s v.command).broadcast v).contents ≡ false
  unfolding faults_for faults_of
  contents_off ram v = rw (target_off ram v.command)

  pub bit_four_off : (ram : List ℕ) (command : ℕ) (valid : Bool) → status_word s (target_of ram s command) valid / 16 % 2 ≡ 0
  bit_four_off ram command valid = status_plain s (target_of ram s command) valid (target_off ram command)
