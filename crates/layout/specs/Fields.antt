-- Fields of a record's bytes: each a place, a width in bytes and a number, which stands there "high byte first".
use Rattle.std.specs.Prelude.{ℕ, zero, suc, ◌+◌, ◌*◌, ◌/◌, ◌%◌, List, [], ◌∷◌, get_or, set}

pub record Field : Type 0 where
  pub place : ℕ
  pub width : ℕ
  pub value : ℕ

-- "numbers high byte first": the number in the n bytes from i on
abbrev pub number_at : List ℕ → ℕ → ℕ → ℕ
number_at s i zero = 0
number_at s i (suc zero) = get_or s i 0
number_at s i (suc (suc n)) = number_at s i (suc n) * 256 + get_or s (i + suc n) 0

-- the same way round: the number x put in the n bytes from i on
unfoldable pub put_number : List ℕ → ℕ → ℕ → ℕ → List ℕ
put_number s i zero x = s
put_number s i (suc zero) x = set s i (x % 256)
put_number s i (suc (suc n)) x = set (put_number s i (suc n) (x / 256)) (i + suc n) (x % 256)

-- "filled field by field", from the first on
unfoldable pub put_fields : List Field → List ℕ → List ℕ
put_fields [] s = s
put_fields (f ∷ fs) s = put_fields fs (put_number s f.place f.width f.value)
