-- Fields that stand end to end: what is put is read, and what is read and put into any bytes gives back what it was
-- read from. A record with one field more is one line more of its list, under the same laws.
use Prim.Native.Nat.{ℕ, ◌+◌, ◌*◌, ◌%◌, ◌^◌, ◌<◌, ◌≤◌}
use native.Mathlib.Omega.{arith}
use mathlib.Core.Path.{◌≡◌, refl, sym, ◌∙◌}
use mathlib.Core.Bool.{Bool, true, ◌&&◌}
use mathlib.Core.List.{List, [], ◌∷◌, ◌++◌}
use lib.ListN.{length, get_or}
use lib.Seq.{ext_get_or}
use lib.Dec.{eqb}
use borrow.Author.Tests.{eqb-true}
use Rattle.words.proofs.Basics.{and_left, and_right}
use Rattle.layout.specs.Fields.{Field, number_at, put_number, put_fields}
use Rattle.layout.specs.Layout.{Bytes}
use Rattle.layout.proofs.Numbers.{length_number, number_before, number_anew, number_same, number_put, number_again, bytes_number}

-- the fields stand end to end, from place p to place q
unfoldable pub end_to_end : ℕ → List Field → ℕ → Bool
end_to_end p [] q = eqb p q
end_to_end p (f ∷ fs) q = eqb p f.place && end_to_end (p + f.width) fs q

-- the numbers that stand in the fields' places
unfoldable pub numbers_in : List Field → List ℕ → List ℕ
numbers_in [] s = []
numbers_in (f ∷ fs) s = number_at s f.place f.width ∷ numbers_in fs s

-- the fields' values
unfoldable pub values_in : List Field → List ℕ
values_in [] = []
values_in (f ∷ fs) = f.value ∷ values_in fs

-- the values as far as their bytes hold them
unfoldable pub held_in : List Field → List ℕ
held_in [] = []
held_in (f ∷ fs) = f.value % 2 ^ (8 * f.width) ∷ held_in fs

pub length_fields : (fs : List Field) (s : List ℕ) → length (put_fields fs s) ≡ length s
unfolding put_fields
length_fields [] s = refl
length_fields (f ∷ fs) s = length_fields fs _ ∙ length_number s f.place f.width f.value

pub bytes_fields : (fs : List Field) (s : List ℕ) → Bytes s → Bytes (put_fields fs s)
unfolding put_fields
bytes_fields [] s b = b
bytes_fields (f ∷ fs) s b = bytes_fields fs _ (bytes_number s f.place f.width f.value b)

pub put_append : (fs gs : List Field) (s : List ℕ) → put_fields (fs ++ gs) s ≡ put_fields gs (put_fields fs s)
unfolding put_fields
put_append [] gs s = refl
put_append (f ∷ fs) gs s = put_append fs gs _

-- where the first field stands, and the others
starts : (f : Field) (fs : List Field) (p q : ℕ) → end_to_end p (f ∷ fs) q ≡ true → p ≡ f.place
unfolding end_to_end
starts f fs p q e = eqb-true p f.place (and_left (eqb p f.place) (end_to_end (p + f.width) fs q) e)

goes_on : (f : Field) (fs : List Field) (p q : ℕ) → end_to_end p (f ∷ fs) q ≡ true → end_to_end (p + f.width) fs q ≡ true
unfolding end_to_end
goes_on f fs p q e = and_right (eqb p f.place) (end_to_end (p + f.width) fs q) e

ends_after : (fs : List Field) (p q : ℕ) → end_to_end p fs q ≡ true → p ≤ q
unfolding end_to_end
ends_after [] p q e = omega (arith, eqb-true p q e)
ends_after (f ∷ fs) p q e = omega (arith, ends_after fs (p + f.width) q (goes_on f fs p q e))

-- a place before the first field
pub fields_before :
    (fs : List Field) (s : List ℕ) (p q k : ℕ) → end_to_end p fs q ≡ true → k < p → get_or (put_fields fs s) k 0 ≡ get_or s k 0
unfolding put_fields
fields_before [] s p q k e l = refl
fields_before (f ∷ fs) s p q k e l =
    let at = starts f fs p q e in
    fields_before fs _ (p + f.width) q k (goes_on f fs p q e) (omega arith)
    ∙ number_before s f.place f.width f.value k (omega arith)

-- what is put in the fields is read in them
pub fields_put :
    (fs : List Field) (s : List ℕ) (p q : ℕ) → end_to_end p fs q ≡ true → q ≤ length s →
    numbers_in fs (put_fields fs s) ≡ held_in fs
unfolding put_fields numbers_in held_in
fields_put [] s p q e h = refl
fields_put (f ∷ fs) s p q e h =
    let at = starts f fs p q e in
    let on = goes_on f fs p q e in
    let t = put_number s f.place f.width f.value in
    let kept : number_at (put_fields fs t) f.place f.width ≡ number_at t f.place f.width =
    number_same (put_fields fs t) t f.place f.width
    (λ k l. fields_before fs t (p + f.width) q k on (omega arith)) in
    let room = length_number s f.place f.width f.value in
    rw (kept, number_put s f.place f.width f.value (omega (arith, ends_after fs (p + f.width) q on)))
    (rw (fields_put fs t (p + f.width) q on (omega arith)))

-- where the fields reach the end, what stood there before does not matter
pub fields_anew :
    (fs : List Field) (s t : List ℕ) (p q : ℕ) → end_to_end p fs q ≡ true → length s ≡ q → length t ≡ q →
    ((k : ℕ) → k < p → get_or s k 0 ≡ get_or t k 0) → put_fields fs s ≡ put_fields fs t
unfolding put_fields end_to_end
fields_anew [] s t p q e m n h = ext_get_or 0 s t (m ∙ sym n) (λ k l. h k (omega (arith, eqb-true p q e)))
fields_anew (f ∷ fs) s t p q e m n h =
    let at = starts f fs p q e in
    let on = goes_on f fs p q e in
    let end = ends_after fs (p + f.width) q on in
    fields_anew fs _ _ (p + f.width) q on
    (length_number s f.place f.width f.value ∙ m)
    (length_number t f.place f.width f.value ∙ n)
    (λ k l.
    number_anew s t f.place f.width f.value k (omega arith) (omega arith) (λ j i. h j (omega arith))
    (omega arith))

-- what is read in the fields and put back changes nothing
pub fields_again : (fs : List Field) (s : List ℕ) → Bytes s → numbers_in fs s ≡ values_in fs → put_fields fs s ≡ s
unfolding put_fields numbers_in values_in
fields_again [] s b e = refl
fields_again (f ∷ fs) s b e =
    let first : number_at s f.place f.width ≡ f.value = cc in
    let others : numbers_in fs s ≡ values_in fs = cc in
    rw (← first, number_again s f.place f.width b) (fields_again fs s b others)
