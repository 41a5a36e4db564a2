-- Exchanging neighbours of a list. "Exchange neighbours as often as you like".
use Rattle.std.specs.Prelude.{ℕ, zero, suc, List, [], ◌∷◌}

-- the list with its places n and n + 1 exchanged; a list that has no such places stays as it is
unfoldable pub swap_at : {A : Type 0} → ℕ → List A → List A
swap_at n [] = []
swap_at n (x ∷ []) = x ∷ []
swap_at zero (x ∷ y ∷ rest) = y ∷ x ∷ rest
swap_at (suc n) (x ∷ y ∷ rest) = x ∷ swap_at n (y ∷ rest)

-- exchanges one after the other, each at its place in the list as it stands then
unfoldable pub exchange_all : {A : Type 0} → List ℕ → List A → List A
exchange_all [] xs = xs
exchange_all (n ∷ ns) xs = exchange_all ns (swap_at n xs)
