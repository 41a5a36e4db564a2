-- What is tested before a trace is replayed: "Refusals: 1, 3, then 12 for an address beyond the RAM."
use Rattle.std.specs.Prelude.{ℕ, List, [], ◌∷◌, ◌++◌, leb}
use Rattle.words.specs.declared.settings.Settings.{Settings}
use Rattle.words.specs.Number.{ram_length, bad_settings, address_beyond}
use Rattle.words.specs.Refusal.{Test, ◌when◌, first_of}
use Rattle.words.specs.Settings.{settings_refused}
use Rattle.memory.specs.Map.{ram_refused}

-- about RAM and settings
abbrev pub replay_tests : ℕ → Settings → List Test
replay_tests words s = ram_length when ram_refused words ∷ bad_settings when settings_refused s ∷ []

unfoldable pub replay_refusal : ℕ → Settings → ℕ
replay_refusal words s = first_of (replay_tests words s)

-- and about the address
abbrev pub who_tests : ℕ → Settings → ℕ → List Test
who_tests words s a = replay_tests words s ++ (address_beyond when leb words a ∷ [])

unfoldable pub who_refusal : ℕ → Settings → ℕ → ℕ
who_refusal words s a = first_of (who_tests words s a)
