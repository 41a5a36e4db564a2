-- The tests in turn: the number is that of the early tests, else that of the record's, else that of the command's. So a
-- test that is not reached need not be worked out.
use Prim.Native.Nat.{ℕ}
use native.Mathlib.Omega.{arith}
use mathlib.Core.Path.{◌≡◌, refl, sym, ◌∙◌}
use mathlib.Core.Bool.{Bool, true}
use mathlib.Core.List.{List, ◌++◌}
use lib.ListN.{length}
use Rattle.words.specs.declared.settings.Settings.{Settings}
use Rattle.words.specs.Refusal.{Test, first_of}
use Rattle.words.proofs.Refusals.{first_stops, first_passes}
use Rattle.memory.specs.Map.{ram_refused}
use Rattle.memory.specs.State.{State}
use Rattle.message.specs.Heard.{Heard}
use Rattle.message.specs.Tests.{early_tests, record_tests, command_tests, refusal_for}

module _ (s : Settings) (h : Heard) (x : State) where
  abbrev early : List Test
  early = early_tests (length x.ram) (length x.reply) s

  abbrev late : List Test
  late = command_tests x.ram s h.value.command

  pub stops_early : (n : ℕ) → n ≡ first_of early → (n ≡ 0 → ⊥) → refusal_for s h x ≡ n
  unfolding refusal_for
  stops_early n e m = first_stops early (record_tests h ++ late) refl (λ z. m (e ∙ z)) ∙ sym e

  module _ (passed : first_of early ≡ 0) where
    behind : refusal_for s h x ≡ first_of (record_tests h ++ late)
    unfolding refusal_for
    behind = first_passes early (record_tests h ++ late) refl passed

    pub stops_record : (n : ℕ) → first_of (record_tests h) ≡ n → (n ≡ 0 → ⊥) → refusal_for s h x ≡ n
    stops_record n e m = behind ∙ first_stops (record_tests h) late refl (λ z. m (sym e ∙ z)) ∙ e

    pub passes_record : first_of (record_tests h) ≡ 0 → refusal_for s h x ≡ first_of late
    passes_record e = behind ∙ first_passes (record_tests h) late refl e

-- after the early tests RAM has its length
pub ram_passed :
    (size room : ℕ) (s : Settings) (b : Bool) → first_of (early_tests size room s) ≡ 0 → b ≡ ram_refused size → b ≡ true → ⊥
unfolding first_of
ram_passed size room s b passed e held = let one = rw (sym e ∙ held) at passed in omega arith
