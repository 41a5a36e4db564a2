-- The tests of the question about one address: those of a replay, and one more.
use Prim.Native.Nat.{ℕ}
use mathlib.Core.Path.{◌≡◌, refl, sym, ◌∙◌}
use mathlib.Core.List.{[], ◌∷◌}
use lib.Dec.{leb}
use Rattle.words.specs.declared.settings.Settings.{Settings}
use Rattle.words.specs.Number.{address_beyond}
use Rattle.words.specs.Refusal.{◌when◌, first_of}
use Rattle.words.proofs.Refusals.{first_stops, first_passes}
use Rattle.who.specs.Tests.{replay_tests, replay_refusal, who_refusal}

-- tested in turn
pub who_stops : (words : ℕ) (s : Settings) (a n : ℕ) → n ≡ replay_refusal words s → (n ≡ 0 → ⊥) → n ≡ who_refusal words s a
unfolding replay_refusal who_refusal
who_stops words s a n e m =
    e ∙ sym (first_stops (replay_tests words s) (address_beyond when leb words a ∷ []) refl (λ z. m (e ∙ z)))

pub who_passes :
    (words : ℕ) (s : Settings) (a n : ℕ) →
    n ≡ replay_refusal words s →
    n ≡ 0 →
    who_refusal words s a ≡ first_of (address_beyond when leb words a ∷ [])
unfolding replay_refusal who_refusal
who_passes words s a n e z = first_passes (replay_tests words s) (address_beyond when leb words a ∷ []) refl (sym e ∙ z)
