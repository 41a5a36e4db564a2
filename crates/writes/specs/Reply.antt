-- The reply. "The reply goes to the front of a lent buffer; its other words keep their contents."
use Rattle.std.specs.Prelude.{ℕ, Bool, cond, ◌&&◌, List, [], ◌∷◌, map, eqb}
use Rattle.windows.specs.declared.window.Window.{Window}
use Rattle.writes.specs.Copies.{sent_writes}
use Rattle.plan.specs.declared.deed.Deed.{Deed}
use Rattle.memory.specs.Writes.{Write}

-- the words behind the status: the n words from the window's pointer on; where one is sent alone that is not the
-- window's, the descriptor's third word
unfoldable pub sent_behind : List ℕ → Window → ℕ → Bool → ℕ → List Write
sent_behind ram w sent alone third =
    cond (eqb sent 1 && alone) (record { at = 1; word = third } ∷ []) (sent_writes ram w sent)

-- rule 8: "the status is sent, before any data words"; no reply where it is not sent
unfoldable pub reply_writes : List ℕ → Deed → List Write
reply_writes ram d =
    cond d.answered
    (record { at = 0; word = d.status } ∷ sent_behind ram d.window d.sent d.sends_third d.third)
    []

-- the words that a message sends, in order
unfoldable pub reply_words : List ℕ → Deed → List ℕ
reply_words ram d = map (λ w. w.word) (reply_writes ram d)
