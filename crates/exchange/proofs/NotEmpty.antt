-- Demand 3 is not empty: it speaks of the three cases that are allowed, and all that it gives holds of them.
use Prim.Native.Nat.{ℕ}
use mathlib.Core.Path.{◌≡◌, refl, sym, ap, ◌∙◌}
use mathlib.Core.Bool.{true}
use mathlib.Core.List.{List}
use lib.ListN.{get_or, get_or-map}
use Rattle.exchange.specs.Exchanged.{Exchanged}
use Rattle.exchange.specs.Cases.{bench, Case, start_of, Seen, seen, two_receives, two_transmits, two_transfers, cases}
use Rattle.exchange.proofs.Cases.{expected, computed}
use Rattle.exchange.proofs.Theorem.{exchange}

abbrev Holds : Case → Type 0
Holds c = Exchanged bench (start_of c) c.messages c.places

abbrev case_at : ℕ → Case
case_at n = get_or cases n two_receives

-- a case that the table says is asked for
allowed : (n : ℕ) → (get_or expected n (seen two_receives)).asks ≡ true → Holds (case_at n)
unfolding seen
allowed n asks =
    let row : seen (case_at n) ≡ get_or expected n (seen two_receives) =
    sym (get_or-map seen cases n two_receives) ∙ ap (λ (rows : List Seen). get_or rows n (seen two_receives)) computed in
    exchange bench (start_of (case_at n)) (case_at n).messages (case_at n).places (ap (λ (r : Seen). r.asks) row ∙ asks)

pub two_receives_lem : Holds two_receives
two_receives_lem = allowed 0 refl

pub two_transmits_lem : Holds two_transmits
two_transmits_lem = allowed 1 refl

-- "Demand 3 reads over the widened records."
pub two_transfers_lem : Holds two_transfers
two_transfers_lem = allowed 2 refl
