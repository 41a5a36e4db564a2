-- The spans of all cells, read kind by kind: thirty-two after the other.
use Prim.Native.Nat.{ℕ, ◌+◌, ◌-◌, ◌<◌, ◌≤◌}
use native.Mathlib.Nat.{zero-add}
use native.Mathlib.Omega.{arith}
use mathlib.Core.Path.{◌≡◌, ap, sym, ◌∙◌}
use mathlib.Core.Logic.{⊎_elim}
use mathlib.Core.List.{List, ◌++◌, map}
use lib.ListN.{length, length-map, get_or-map, length-append, get_or-append, get_or, take, drop, length-take, length-drop}
use lib.Seq.{get_or-append-add, take_all, take_at}
use borrow.Rule.Slice.PartMut.{mid_of, post_of, put_mid, same_len_mid, mid_len}
use Rattle.std.proofs.lemmas.List.{ext_get_or}
use Rattle.std.proofs.lemmas.Slice.{take-put_mid}
use Rattle.words.specs.Fill.{fill}
use Rattle.words.proofs.Basics.{lt_or_ge}
use Rattle.words.proofs.Fill.{length_fill, fill_at}
use Rattle.words.specs.declared.settings.Settings.{Settings}
use Rattle.memory.specs.declared.kind.Kind.{Kind}
use Rattle.memory.specs.Kind.{cell_number}
use Rattle.memory.proofs.Numbers.{number_below}
use Rattle.cells.specs.Cell.{cell_at}
use Rattle.area.specs.Area.{cell_numbered}
use Rattle.area.proofs.Listed.{numbered_cell}
use Rattle.label_spans.specs.declared.span.Span.{Span}
use Rattle.label_spans.specs.Span.{no_span, span_at, starts_of, ends_of}

-- what the code needs of a number that it makes of a kind and a subaddress
pub ruleset kind_numbers = (number_below, numbered_cell)

-- the numbers of a kind's cells follow on that of its first
pub number_on : (kind : Kind) (sub : ℕ) → cell_number kind sub ≡ cell_number kind 0 + sub
unfolding cell_number
number_on kind sub = omega arith

pub number_on_below : (kind : Kind) (sub : ℕ) → sub < 32 → cell_number kind 0 + sub < 96
number_on_below kind sub h = rw (← (number_on kind sub)) (number_below kind sub h)

-- and a cell of that number is the kind's
pub cell_by_kind :
    (ram : List ℕ) (s : Settings) (kind : Kind) (sub : ℕ) → sub < 32 →
    cell_numbered ram s (cell_number kind sub) ≡ cell_at ram s.area kind sub
cell_by_kind = numbered_cell

-- ---- the spans of all cells, from those of three kinds

-- three runs, one after the other
runs_at :
    (f : ℕ → Span) (a b c : List Span) → length a ≡ 32 → length b ≡ 32 → length c ≡ 32 →
    ((k : ℕ) → k < 32 → span_at a k ≡ f (0 + k)) → ((k : ℕ) → k < 32 → span_at b k ≡ f (32 + k)) →
    ((k : ℕ) → k < 32 → span_at c k ≡ f (64 + k)) → (k : ℕ) → k < 96 → span_at (a ++ b ++ c) k ≡ f k
runs_at f a b c l m n p q r k h =
    let two : length (a ++ b) ≡ 64 = rw length-append (omega arith) in
    ⊎_elim
    (λ (g : k < 64).
    rw (get_or-append (a ++ b) c no_span k (omega arith))
    (⊎_elim
    (λ (d : k < 32). rw (get_or-append a b no_span k (omega arith)) (rw zero-add at (p k d)))
    (λ (d : 32 ≤ k).
    let e : length a + (k - 32) ≡ k = omega arith in
    let i : 32 + (k - 32) ≡ k = omega arith in
    rw e at (get_or-append-add a b (k - 32) no_span) ∙ rw i at (q (k - 32) (omega arith)))
    (lt_or_ge k 32)))
    (λ (g : 64 ≤ k).
    let e : length (a ++ b) + (k - 64) ≡ k = omega arith in
    let i : 64 + (k - 64) ≡ k = omega arith in
    rw e at (get_or-append-add (a ++ b) c (k - 64) no_span) ∙ rw i at (r (k - 64) (omega arith)))
    (lt_or_ge k 64)

-- what is written over the three parts of a list
module _ (xs a b c : List Span) (long : length xs ≡ 96) (l : length a ≡ length (take 32 xs)) where
  abbrev first : List Span
  first = a ++ post_of 0 32 xs

  abbrev second : List Span
  second = put_mid 32 32 first b

  abbrev third : List Span
  third = put_mid 64 32 second c

  length_a : length a ≡ 32
  length_a = omega (arith, length-take 32 xs)

  length_first : length first ≡ 96
  length_first = rw length-append (omega (arith, length_a, length-drop 32 xs))

  module _ (m : length b ≡ length (mid_of 32 32 first)) (n : length c ≡ length (mid_of 64 32 second)) where
    length_b : length b ≡ 32
    length_b = m ∙ mid_len 32 64 first (omega (arith, length_first))

    length_second : length second ≡ 96
    length_second = same_len_mid 32 32 first b m ∙ length_first

    length_c : length c ≡ 32
    length_c = n ∙ mid_len 64 96 second (omega (arith, length_second))

    pub length_third : length third ≡ 96
    length_third = same_len_mid 64 32 second c n ∙ length_second

    parts_written : third ≡ a ++ b ++ c
    parts_written =
        sym (take_all 96 third (omega (arith, length_third)))
        ∙ take-put_mid 64 32 second c 96 (omega (arith, length_c)) (omega (arith, length_second))
        ∙ rw (take-put_mid 32 32 first b 64 (omega (arith, length_b)) (omega (arith, length_first)), take_at a (drop 32 xs) 32 length_a)

    pub kinds_read :
        (f : ℕ → Span) → ((k : ℕ) → k < 32 → span_at a k ≡ f (0 + k)) → ((k : ℕ) → k < 32 → span_at b k ≡ f (32 + k)) →
        ((k : ℕ) → k < 32 → span_at c k ≡ f (64 + k)) → (k : ℕ) → k < 96 → span_at third k ≡ f k
    kinds_read f p q r = rw parts_written (runs_at f a b c length_a length_b length_c p q r)

-- a number of each, as it is filled in at each cell's place
pub numbers_all :
    (f : ℕ → Span) (g : Span → ℕ) → g no_span ≡ 0 → (spans : List Span) → length spans ≡ 96 →
    ((k : ℕ) → k < 96 → span_at spans k ≡ f k) → (places : List ℕ) → length places ≡ 96 →
    map g spans ≡ fill (λ k. g (f k)) places 96
numbers_all f g zero_at spans long all places l =
    let h : ℕ → ℕ = λ k. g (f k) in
    ext_get_or 0 (map g spans) (fill h places 96) (rw length-map (omega (arith, length_fill 0 h places 96)))
    (λ k b.
    let below : k < 96 = omega (arith, length-map spans g) in
    rw (fill_at h places 96 k (omega arith) below)
    (rw zero_at at (get_or-map g spans k no_span) ∙ ap g (all k below)))

-- spans that begin alike and end alike are the same
pub spans_same : (xs ys : List Span) → starts_of xs ≡ starts_of ys → ends_of xs ≡ ends_of ys → xs ≡ ys
spans_same xs ys p q =
    let start : Span → ℕ = λ v. v.start in
    let end : Span → ℕ = λ v. v.end in
    ext_get_or no_span xs ys (sym (length-map xs start) ∙ ap length p ∙ length-map ys start)
    (λ k h.
    let s : (span_at xs k).start ≡ (span_at ys k).start =
    sym (get_or-map start xs k no_span) ∙ ap (λ l. get_or l k 0) p ∙ get_or-map start ys k no_span in
    let e : (span_at xs k).end ≡ (span_at ys k).end =
    sym (get_or-map end xs k no_span) ∙ ap (λ l. get_or l k 0) q ∙ get_or-map end ys k no_span in
    λ i. record { start = s i; end = e i })
