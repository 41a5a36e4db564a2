-- What demand 3 asks of the messages, and of two neighbours that are exchanged.
use Rattle.std.specs.Prelude.{ℕ, zero, suc, Bool, true, false, not, ◌&&◌, ◌||◌, List, [], ◌∷◌, eqb}
use Rattle.records.specs.declared.value.Record.{Record}
use Rattle.words.specs.declared.settings.Settings.{Settings}
use Rattle.words.specs.Command.{transmits, is_mode_subaddress}
use Rattle.words.specs.Settings.{is_not_ours}
use Rattle.windows.specs.Window.{windows_meet}
use Rattle.lookup.specs.Target.{target_of}
use Rattle.message.specs.Heard.{Heard}
use Rattle.exchange.specs.Order.{swap_at}

-- "well-formed data messages for this terminal": the record has its length and keeps its layout, the address is ours or
-- broadcast, the subaddress is 1 to 30
unfoldable pub well_formed : Settings → Heard → Bool
well_formed s h =
    (not h.bad_length && not h.bad_layout)
    && (not (is_not_ours s h.value.command) && not (is_mode_subaddress h.value.command))

unfoldable pub all_well_formed : Settings → List Heard → Bool
all_well_formed s [] = true
all_well_formed s (h ∷ hs) = well_formed s h && all_well_formed s hs

-- "if they use different cells whose windows don't meet, or that both only send": a transmit command uses a transmit
-- cell, which only sends
unfoldable pub may_exchange : List ℕ → Settings → Record → Record → Bool
may_exchange ram s a b =
    not (eqb (target_of ram s a.command).number (target_of ram s b.command).number)
    && (not (windows_meet (target_of ram s a.command).window (target_of ram s b.command).window)
    || (transmits a.command && transmits b.command))

-- places n and n + 1 of the list hold two such messages
unfoldable pub allowed_at : List ℕ → Settings → ℕ → List Heard → Bool
allowed_at ram s n [] = false
allowed_at ram s n (a ∷ []) = false
allowed_at ram s zero (a ∷ b ∷ rest) = may_exchange ram s a.value b.value
allowed_at ram s (suc n) (a ∷ b ∷ rest) = allowed_at ram s n (b ∷ rest)

-- every exchange, each in the list as it stands then; cells and windows are those of the start
unfoldable pub allowed_all : List ℕ → Settings → List ℕ → List Heard → Bool
allowed_all ram s [] hs = true
allowed_all ram s (n ∷ ns) hs = allowed_at ram s n hs && allowed_all ram s ns (swap_at n hs)
