-- Text behind text, and what a caller that lent a buffer finds in it.
use Prim.Native.Nat.{ℕ, ◌+◌, ◌<◌, ◌≤◌, ◌^◌}
use native.Mathlib.Omega.{arith}
use mathlib.Core.Path.{◌≡◌, refl, sym, ◌∙◌}
use mathlib.Core.List.{List, [], ◌++◌}
use lib.ListN.{length, take, drop}
use lib.Seq.{sets-eq, length-take-le, take-append_seam}
use Rattle.words.proofs.Settled.{determined}
use Rattle.text.specs.declared.text.Text.{Text}
use Rattle.text.specs.Text.{Put, PutFirst, Adds}
use Rattle.text.proofs.Runs.{put_none, put_then, put_first}

-- nothing
pub adds_none : {t : Text} → length t.out.now < 2 ^ 64 → t.at < 2 ^ 64 → Adds t [] t
adds_none h k = record { put = put_none h k; lent = refl; name = refl; length = refl }

-- text after text
pub adds_then : {t t₁ t₂ : Text} {xs ys : List ℕ} → Adds t xs t₁ → Adds t₁ ys t₂ → Adds t (xs ++ ys) t₂
adds_then a b =
    record { put = put_then a.put b.put; lent = b.lent ∙ a.lent; name = b.name ∙ a.name; length = b.length ∙ a.length }

-- the same text, said in another way
pub adds_same : {t t₁ : Text} {xs ys : List ℕ} → xs ≡ ys → Adds t xs t₁ → Adds t ys t₁
adds_same e a = rw (← e) a

-- what was put is in the slice that was lent
pub adds_lent :
    {t t₁ : Text} {l l₁ xs : List ℕ} → Adds t xs t₁ → t.out.now ≡ l → l₁ ≡ t₁.out.now → Put l t.at xs l₁ t₁.at
adds_lent a e f = rw (f, ← e) a.put

-- at its front, where the text is not too long to count
pub adds_first :
    {t t₁ : Text} {l l₁ xs : List ℕ} →
    Adds t xs t₁ → t.out.now ≡ l → l₁ ≡ t₁.out.now → t.at ≡ 0 → length xs < 2 ^ 64 → PutFirst l xs l₁ t₁.at
adds_first {xs = xs} a e f z h = let p = adds_lent a e f in put_first (rw z at p) h

-- ---- text put aside, to the front of room for it

module _ {t t₁ : Text} {l xs : List ℕ} (a : Adds t xs t₁) (e : l ≡ t₁.out.now) (z : t.at ≡ 0) (h : length xs ≤ length t.out.now) where
  pub aside_used : t₁.at ≡ length xs
  aside_used = let p = rw z at a.put in omega (arith, p.place, p.short)

  pub aside_fits : t₁.at ≤ length l
  aside_fits = rw e (omega (arith, aside_used, a.length))

  pub aside_long : t₁.at ≡ length (take t₁.at l)
  aside_long = sym (length-take-le t₁.at l aside_fits)

  -- it is there
  pub aside_taken : take t₁.at l ≡ xs
  aside_taken =
      let p = rw z at a.put in
      rw (aside_used, e, p.bytes, sets-eq xs t.out.now 0 (omega arith)) (take-append_seam xs (drop (0 + length xs) t.out.now))

-- a text and what is added leave one text
pub adds_settled : {t x y : Text} {xs : List ℕ} → Adds t xs x → Adds t xs y → x ≡ y
adds_settled a b = λ i. record {
  out = record { ref_ptr = determined a.lent b.lent i; ghost_name = determined a.name b.name i; now = determined a.put.bytes b.put.bytes i };
  at = determined a.put.place b.put.place i;
}
