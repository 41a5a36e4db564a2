-- What stands at each place of a record's bytes and words: the definitions of Layout and Value, place by place.
use Prim.Native.Nat.{ℕ, zero, suc, ◌+◌, ◌*◌, ◌<◌, ◌≤◌}
use native.Mathlib.Omega.{arith}
use mathlib.Core.Path.{◌≡◌, refl}
use mathlib.Core.Logic.{◌↔◌, ⊎_elim}
use mathlib.Core.Bool.{true, false, not, ◌&&◌, or-true}
use mathlib.Core.List.{List}
use lib.ListN.{get_or}
use lib.Dec.{ltb, leb}
use borrow.Author.Tests.{eq-eqb, eqb-true, lt-ltb, le-ltb, le-leb, leb-true, not-true, not-false}
use Rattle.records.specs.declared.value.Record.{Record}
use Rattle.records.specs.Transfer.{breaks_transfer}
use Rattle.records.specs.Value.{zero_words, lasts_zero, keeps_layout}
use Rattle.records.proofs.Rules.{KeepsTransfer, kept_of, unbroken_of}
use Rattle.layout.specs.Layout.{word_at, are_zero, words_in, value_in, gap_zero, breaks_layout}
use Rattle.words.proofs.Fill.{fill_at}
use Rattle.words.proofs.Basics.{lt_or_ge, eq_or_ne, and_left, and_right}

pub are_zero_at : (s : List ℕ) (from n k : ℕ) → are_zero s from n ≡ true → k < n → get_or s (from + k) 0 ≡ 0
unfolding are_zero
are_zero_at s from zero k e l = omega arith
are_zero_at s from (suc n) k e l =
    ⊎_elim
    (λ same. rw same (eqb-true _ _ (and_right (are_zero s from n) _ e)))
    (λ ne. are_zero_at s from n k (and_left _ _ e) (omega arith))
    (eq_or_ne k n)

pub are_zero_of :
    (s : List ℕ) (from n : ℕ) → ((k : ℕ) → k < n → get_or s (from + k) 0 ≡ 0) → are_zero s from n ≡ true
unfolding are_zero
are_zero_of s from zero h = refl
are_zero_of s from (suc n) h =
    simp (are_zero_of s from n (λ k l. h k (omega arith)), eq-eqb (get_or s (from + n) 0) 0 (h n (omega arith)))

pub word_at_lem : (s : List ℕ) (k : ℕ) → k < 32 → get_or (words_in s) k 0 ≡ word_at s (16 + 2 * k)
unfolding words_in
word_at_lem s k l = fill_at (λ k. word_at s (16 + 2 * k)) zero_words 32 k (omega arith) l

pub lasts_zero_at :
    (words : List ℕ) (count n k : ℕ) → lasts_zero words count n ≡ true → k < n → count ≤ k → get_or words k 0 ≡ 0
unfolding lasts_zero
lasts_zero_at words count zero k e l h = omega arith
lasts_zero_at words count (suc n) k e l h =
    ⊎_elim
    (λ same.
    let late : ltb n count ≡ false = le-ltb n count (omega arith) in
    rw same (eqb-true (get_or words n 0) 0 (simp late at (and_right (lasts_zero words count n) _ e))))
    (λ ne. lasts_zero_at words count n k (and_left _ _ e) (omega arith) h)
    (eq_or_ne k n)

pub lasts_zero_of :
    (words : List ℕ) (count n : ℕ) → ((k : ℕ) → count ≤ k → k < n → get_or words k 0 ≡ 0) → lasts_zero words count n ≡ true
unfolding lasts_zero
lasts_zero_of words count zero h = refl
lasts_zero_of words count (suc n) h =
    rw (lasts_zero_of words count n (λ k a l. h k a (omega arith)))
    (⊎_elim
    (λ early. rw (lt-ltb n count early))
    (λ late. rw (eq-eqb (get_or words n 0) 0 (h n late (omega arith))) (or-true (ltb n count)))
    (lt_or_ge n count))

-- the rules of a record value, one by one
pub record Lawful (v : Record) : Type 0 where
  pub flags : v.flags ≤ 127
  pub count : v.count ≤ 33
  pub transfer : KeepsTransfer v
  pub rest : (k : ℕ) → v.count ≤ k → k < 32 → get_or v.words k 0 ≡ 0

lawful_of : (v : Record) → keeps_layout v ≡ true → Lawful v
unfolding keeps_layout
lawful_of v e =
    let limits = leb v.flags 127 && leb v.count 33 in
    let rules = limits && not (breaks_transfer v) in
    let head = and_left rules (lasts_zero v.words v.count 32) e in
    let low = and_left limits (not (breaks_transfer v)) head in
    record {
      flags = leb-true v.flags 127 (and_left (leb v.flags 127) (leb v.count 33) low);
      count = leb-true v.count 33 (and_right (leb v.flags 127) (leb v.count 33) low);
      transfer = kept_of v (not-true (breaks_transfer v) (and_right limits (not (breaks_transfer v)) head));
      rest =
          λ k a l.
          lasts_zero_at v.words v.count 32 k (and_right rules (lasts_zero v.words v.count 32) e) l a;
    }

keeps_of : (v : Record) → Lawful v → keeps_layout v ≡ true
unfolding keeps_layout
keeps_of v h =
    rw (le-leb v.flags 127 h.flags, le-leb v.count 33 h.count, unbroken_of v h.transfer)
    (lasts_zero_of v.words v.count 32 h.rest)

-- a value keeps the layout exactly when it keeps each rule
pub keeps_layout_lem : (v : Record) → (keeps_layout v ≡ true) ↔ Lawful v
keeps_layout_lem v = (lawful_of v, keeps_of v)

-- the parts of a layout that is kept
pub record Kept (s : List ℕ) : Type 0 where
  pub gap : gap_zero s ≡ true
  pub value : keeps_layout (value_in s) ≡ true

pub layout_kept : (s : List ℕ) → breaks_layout s ≡ false → Kept s
unfolding breaks_layout
layout_kept s b =
    let all = not-false (gap_zero s && keeps_layout (value_in s)) b in
    record {
      gap = and_left (gap_zero s) (keeps_layout (value_in s)) all;
      value = and_right (gap_zero s) (keeps_layout (value_in s)) all;
    }

-- the layout, rule by rule
pub record LaidOut (s : List ℕ) : Type 0 where
  pub gap : (k : ℕ) → k < 8 → get_or s (8 + k) 0 ≡ 0
  pub value : Lawful (value_in s)

laid_out_of : (s : List ℕ) → breaks_layout s ≡ false → LaidOut s
laid_out_of s b =
    let g = layout_kept s b in
    record {
      gap = λ k l. are_zero_at s 8 8 k g.gap l;
      value = lawful_of (value_in s) g.value;
    }

laid_of : (s : List ℕ) → LaidOut s → breaks_layout s ≡ false
unfolding breaks_layout
laid_of s h =
    rw (are_zero_of s 8 8 h.gap, keeps_of (value_in s) h.value)

-- 80 bytes keep the layout exactly when they keep each rule
pub laid_out : (s : List ℕ) → (breaks_layout s ≡ false) ↔ LaidOut s
laid_out s = (laid_out_of s, laid_of s)
