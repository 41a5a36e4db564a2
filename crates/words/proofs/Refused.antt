-- Refusals and their numbers: no refusal has the number 0, no two have the same, and 0 is the number of `Ok` alone.
use Prim.Native.Nat.{ℕ}
use mathlib.Core.Path.{◌≡◌, refl}
use mathlib.Core.Logic.{◌↔◌}
use mathlib.Core.Bool.{Bool, true, false, cond}
use mathlib.Core.List.{List, [], ◌∷◌}
use lib.ListN.{get_or}
use Rattle.std.specs.Prelude.{Option, None, Some, Result, Ok, Err, IsOk}
use Rattle.words.specs.declared.refusal.Refusal.{Refusal}
use Rattle.words.specs.declared.refusal.Refusal.TheVariants.{RamLength, ReplyRoom, BadSettings, RecordLength, RecordLayout, OtherAddress, ModeSubaddress, UnsoundStack, UnsoundCell, GoingBackLoses, CountFull, AddressBeyond, NoRoomToStart}
use Rattle.words.specs.Refusals.{number_of, number_in}

-- the refusal with a number: 0, 13 and 14 are nobody's
abbrev numbered_as : List (Option Refusal)
numbered_as =
    None ∷ Some RamLength ∷ Some ReplyRoom ∷ Some BadSettings ∷ Some RecordLength ∷ Some RecordLayout ∷ Some OtherAddress
    ∷ Some ModeSubaddress ∷ Some UnsoundStack ∷ Some UnsoundCell ∷ Some GoingBackLoses ∷ Some CountFull
    ∷ Some AddressBeyond ∷ None ∷ None ∷ Some NoRoomToStart ∷ []

abbrev refusal_of : ℕ → Option Refusal
refusal_of n = get_or numbered_as n None

refusal_back : (r : Refusal) → refusal_of (number_of r) ≡ Some r
refusal_back RamLength = refl
refusal_back ReplyRoom = refl
refusal_back BadSettings = refl
refusal_back RecordLength = refl
refusal_back RecordLayout = refl
refusal_back OtherAddress = refl
refusal_back ModeSubaddress = refl
refusal_back UnsoundStack = refl
refusal_back UnsoundCell = refl
refusal_back GoingBackLoses = refl
refusal_back CountFull = refl
refusal_back AddressBeyond = refl
refusal_back NoRoomToStart = refl

-- a number is one refusal's
pub number_of-injective : (r s : Refusal) → number_of r ≡ number_of s → r ≡ s
number_of-injective r s e = cc (refusal_back r, refusal_back s, e)

-- and 0 is none's
pub number_of-positive : (r : Refusal) → number_of r ≡ 0 → ⊥
number_of-positive r e = cc (refusal_back r, e)

-- what was not refused has the number 0, and nothing else has
pub number_in-zero : {T : Type 0} (r : Result T Refusal) → (number_in r ≡ 0) ↔ IsOk r
number_in-zero (Ok x) = (λ e. refl, λ o. refl)
number_in-zero (Err refusal) = (λ e. absurd (number_of-positive refusal e), λ o. absurd (cc (o)))

-- a step that refuses, before the rest
pub number_in-cond :
    {T : Type 0} (b : Bool) (refusal : Refusal) (rest : Result T Refusal) →
    number_in (cond b (Err refusal) rest) ≡ cond b (number_of refusal) (number_in rest)
number_in-cond true refusal rest = refl
number_in-cond false refusal rest = refl

-- the result behind the number 0
pub ok_of : {T : Type 0} (r : Result T Refusal) → number_in r ≡ 0 → (x : T) × (r ≡ Ok x)
ok_of (Ok x) e = (x, refl)
ok_of (Err refusal) e = absurd (number_of-positive refusal e)

-- the refusal behind any other number
pub refusal_in : {T : Type 0} (r : Result T Refusal) → (number_in r ≡ 0 → ⊥) → (refusal : Refusal) × (r ≡ Err refusal)
refusal_in (Ok x) m = absurd (m refl)
refusal_in (Err refusal) m = (refusal, refl)

-- a refusal by name, from its number
pub err_of : {T : Type 0} (r : Result T Refusal) (refusal : Refusal) → number_in r ≡ number_of refusal → r ≡ Err refusal
err_of (Ok x) refusal e = absurd (number_of-positive refusal (cc))
err_of (Err other) refusal e = let same = number_of-injective other refusal e in cc
