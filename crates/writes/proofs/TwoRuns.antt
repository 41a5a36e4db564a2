-- The two runs are the one walk around the window, over window, offset and count; what they write is what the walk
-- writes.
use Prim.Native.Nat.{ℕ, zero, suc, ◌+◌, ◌-◌, ◌≤◌, ◌<◌, min}
use native.Mathlib.Nat.{add-zero, zero-add}
use native.Mathlib.Omega.{arith}
use mathlib.Core.Path.{◌≡◌, refl, ap}
use mathlib.Core.Bool.{true, false, cond, ◌&&◌}
use mathlib.Core.Logic.{⊎_elim}
use Rattle.std.specs.Prelude.{Option, Some, None}
use mathlib.Core.List.{List, ◌++◌, append_assoc, append-nil}
use lib.ListN.{get_or}
use lib.Dec.{ltb, leb}
use borrow.Author.Tests.{le-leb, lt-leb, ltb-true, leb-true}
use Rattle.words.proofs.Basics.{yes_or_no, and_left, and_right}
use Rattle.windows.specs.declared.window.Window.{Window}
use Rattle.windows.specs.Window.{place_of, rolls_over}
use Rattle.windows.proofs.Wrap.{place_straight, place_wrapped}
use Rattle.memory.specs.Rows.{row}
use Rattle.memory.specs.Writes.{apply_writes, writes_to}
use Rattle.memory.proofs.Writes.{apply_append}
use Rattle.writes.specs.declared.runs.Runs.{Runs}
use Rattle.writes.specs.Copies.{data_writes}
use Rattle.writes.specs.Copies.{sent_writes}
use Rattle.writes.specs.Runs.{run_writes, goes_once, runs_of}

-- what the test before the runs says
pub record Once (w : Window) (words n : ℕ) : Type 0 where
  pub inside : w.offset < w.size
  pub few : n ≤ w.size
  pub fits : w.start + w.size ≤ words

pub once_says : (w : Window) (words n : ℕ) → goes_once w words n ≡ true → Once w words n
unfolding goes_once
once_says w words n e =
    let q = and_left (ltb w.offset w.size && leb n w.size) (leb (w.start + w.size) words) e in
    record {
      inside = ltb-true _ _ (and_left (ltb w.offset w.size) (leb n w.size) q);
      few = leb-true _ _ (and_right (ltb w.offset w.size) (leb n w.size) q);
      fits = leb-true _ _ (and_right (ltb w.offset w.size && leb n w.size) (leb (w.start + w.size) words) e);
    }

-- the runs share out the words: each has its places straight on, and all lie in the window
pub record TwoRuns (w : Window) (n : ℕ) (r : Runs) : Type 0 where
  pub all : r.first + r.rest ≡ n
  pub first : (k : ℕ) → k < r.first → place_of w k ≡ r.pointer + k
  pub second : (k : ℕ) → k < r.rest → place_of w (r.first + k) ≡ r.start + k
  pub first_end : r.pointer + r.first ≤ w.start + w.size
  pub second_end : r.start + r.rest ≤ w.start + w.size

pub two_runs :
    (w : Window) (n : ℕ) (r : Runs) → w.offset < w.size → n ≤ w.size → r ≡ runs_of w n → TwoRuns w n r
unfolding rolls_over runs_of
two_runs w n r o l e =
    let p : r.pointer ≡ w.start + w.offset = ap (λ (x : Runs). x.pointer) e in
    let f : r.first ≡ min n (w.size - w.offset) = ap (λ (x : Runs). x.first) e in
    let s : r.start ≡ w.start = ap (λ (x : Runs). x.start) e in
    let q : r.rest ≡ n - min n (w.size - w.offset) = ap (λ (x : Runs). x.rest) e in
    record {
      all = omega (arith, f, q);
      first = λ k h.
          omega (arith, p, f, place_straight w k (lt-leb w.size (w.offset + k) (omega (arith, f))));
      second = λ k h.
          omega (
            arith,
            s,
            f,
            q,
            place_wrapped w (r.first + k) o (omega (arith, f, q)) (le-leb w.size (w.offset + (r.first + k)) (omega (arith, f, q))),
          );
      first_end = omega (arith, p, f);
      second_end = omega (arith, s, f, q);
    }

-- where there are runs, the window lies in RAM and the walk goes once: they share out the words, and all lie in RAM
pub record RunsInRam (w : Window) (words n : ℕ) (r : Runs) : Type 0 where
  pub shared : TwoRuns w n r
  pub first_end : r.pointer + r.first ≤ words
  pub second_end : r.start + r.rest ≤ words

runs_once : (w : Window) (words n : ℕ) (r : Runs) → Once w words n → r ≡ runs_of w n → RunsInRam w words n r
runs_once w words n r o e =
    let t = two_runs w n r o.inside o.few e in
    record { shared = t; first_end = omega (arith, t.first_end, o.fits); second_end = omega (arith, t.second_end, o.fits) }

pub runs_in_ram :
    (w : Window) (words n : ℕ) (r : Runs) → Some r ≡ cond (goes_once w words n) (Some (runs_of w n)) None →
    RunsInRam w words n r
runs_in_ram w words n r e =
    ⊎_elim
    (λ (y : goes_once w words n ≡ true).
    let f = rw y at e in
    let same : r ≡ runs_of w n = cc in
    runs_once w words n r (once_says w words n y) same)
    (λ (no : goes_once w words n ≡ false).
    let f = rw no at e in
    let none : ◌≡◌ {A = Option Runs} (Some r) None = f in
    cc)
    (yes_or_no (goes_once w words n))

-- writes that are the same one by one
writes_same :
    (p q w v : ℕ → ℕ) (n : ℕ) →
    ((k : ℕ) → k < n → p k ≡ q k) → ((k : ℕ) → k < n → w k ≡ v k) → writes_to p w n ≡ writes_to q v n
unfolding row
writes_same p q w v zero h g = refl
writes_same p q w v (suc n) h g =
    rw (writes_same p q w v n (λ k l. h k (omega arith)) (λ k l. g k (omega arith)), h n (omega arith), g n (omega arith))

-- a list of writes in two parts
writes_join :
    (p w : ℕ → ℕ) (m n : ℕ) →
    writes_to p w (m + n) ≡ writes_to p w m ++ writes_to (λ k. p (m + k)) (λ k. w (m + k)) n
unfolding row
writes_join p w m zero = rw (add-zero, append-nil)
writes_join p w m (suc n) =
    let e : m + suc n ≡ suc (m + n) = omega arith in rw (e, writes_join p w m n, append_assoc)

writes_parts :
    (p w p₁ w₁ p₂ w₂ : ℕ → ℕ) (f g : ℕ) →
    ((k : ℕ) → k < f → p k ≡ p₁ k) → ((k : ℕ) → k < f → w k ≡ w₁ k) →
    ((k : ℕ) → k < g → p (f + k) ≡ p₂ k) → ((k : ℕ) → k < g → w (f + k) ≡ w₂ k) →
    writes_to p w (f + g) ≡ writes_to p₁ w₁ f ++ writes_to p₂ w₂ g
writes_parts p w p₁ w₁ p₂ w₂ f g a b c d =
    let first : writes_to p w f ≡ writes_to p₁ w₁ f = writes_same p p₁ w w₁ f a b in
    let second : writes_to (λ k. p (f + k)) (λ k. w (f + k)) g ≡ writes_to p₂ w₂ g =
    writes_same (λ k. p (f + k)) p₂ (λ k. w (f + k)) w₂ g c d in
    rw (writes_join p w f g, first, second)

module _ (w : Window) (n : ℕ) (r : Runs) (t : TwoRuns w n r) where
  -- storing: the places walk around the window, the words go straight on
  pub stored_in_runs :
      (words m m₁ m₂ : List ℕ) →
      m₁ ≡ apply_writes (run_writes r.pointer words 0 r.first) m →
      m₂ ≡ apply_writes (run_writes r.start words r.first r.rest) m₁ →
      m₂ ≡ apply_writes (data_writes w words n) m
  stored_in_runs words m m₁ m₂ e₁ e₂ =
      let p : data_writes w words (r.first + r.rest)
      ≡ run_writes r.pointer words 0 r.first ++ run_writes r.start words r.first r.rest =
      writes_parts (place_of w) (λ k. get_or words k 0) (λ k. r.pointer + k) (λ k. get_or words (0 + k) 0)
      (λ k. r.start + k) (λ k. get_or words (r.first + k) 0) r.first r.rest
      t.first (λ k h. rw (zero-add)) t.second (λ k h. refl) in
      rw (← t.all, p, apply_append, ← e₁) e₂

  -- sending: the words walk around the window, the places go straight on
  pub sent_in_runs :
      (ram m m₁ m₂ : List ℕ) →
      m₁ ≡ apply_writes (run_writes 1 ram r.pointer r.first) m →
      m₂ ≡ apply_writes (run_writes (1 + r.first) ram r.start r.rest) m₁ →
      m₂ ≡ apply_writes (sent_writes ram w n) m
  sent_in_runs ram m m₁ m₂ e₁ e₂ =
      let p : sent_writes ram w (r.first + r.rest)
      ≡ run_writes 1 ram r.pointer r.first ++ run_writes (1 + r.first) ram r.start r.rest =
      writes_parts (λ k. k + 1) (λ k. get_or ram (place_of w k) 0) (λ k. 1 + k) (λ k. get_or ram (r.pointer + k) 0)
      (λ k. 1 + r.first + k) (λ k. get_or ram (r.start + k) 0) r.first r.rest
      (λ k h. omega arith) (λ k h. rw (t.first k h)) (λ k h. omega arith) (λ k h. rw (t.second k h)) in
      rw (← t.all, p, apply_append, ← e₁) e₂
