-- The search by one window, kind by kind, finds the cells that meet.
use Prim.Native.Nat.{ℕ, zero, suc, ◌+◌, ◌-◌, ◌*◌, ◌%◌, ◌<◌, ◌≤◌}
use native.Mathlib.Nat.{add-zero, add-suc, zero-add}
use native.Mathlib.Omega.{arith}
use mathlib.Core.Path.{◌≡◌, refl, sym, ap, ◌∙◌}
use mathlib.Core.Bool.{Bool, true, false, not, cond, ◌&&◌, and-false, and-true}
use mathlib.Core.List.{List, [], ◌∷◌, ◌++◌, map, map-append, append-nil, append_assoc}
use lib.ListN.{length, length-append, length-map}
use lib.Seq.{sets, length-sets}
use borrow.Rule.Slice.PartMut.{mid_of, put_mid, mid_len}
use lib.Dec.{eqb, leb}
use borrow.Author.Tests.{lt-ltb, le-ltb, le-leb}
use Rattle.words.specs.declared.settings.Settings.{Settings}
use Rattle.words.specs.Settings.{has_broadcast_cells}
use Rattle.words.proofs.Basics.{not_both}
use Rattle.memory.specs.declared.kind.Kind.{Kind}
use Rattle.memory.specs.declared.kind.Kind.TheVariants.{Receive, Transmit, Broadcast}
use Rattle.memory.specs.Kind.{cell_number}
use Rattle.memory.specs.Map.{ram_refused}
use Rattle.windows.specs.declared.window.Window.{Window}
use Rattle.windows.specs.Window.{windows_meet}
use Rattle.cells.specs.Cell.{cell_at, cell_window, sound_cell}
use Rattle.cells.specs.Stack.{stack_window}
use Rattle.area.specs.Area.{is_read}
use Rattle.area.proofs.Listed.{numbered_cell}
use Rattle.label_spans.specs.Span.{window_numbered, read_and_sound}
use Rattle.label.specs.Listing.{passing}
use Rattle.label.specs.Label.{takes_part, cells_meet, meeting_cells}
use Rattle.label.specs.Search.{shares_window, shares_at, sharers_of_kind}
use Rattle.label.proofs.Turns.{passing_no, passing_none, passing_same, Run}
use Rattle.label.proofs.Stored.{run_append, run_tail}
use Rattle.label.proofs.Most.{place_before, meeting_most}

-- ---- numbers that pass, in two parts

one_mapped : (f : ℕ → ℕ) (b : Bool) (n : ℕ) → map f (cond b (n ∷ []) []) ≡ cond b (f n ∷ []) []
one_mapped f true n = refl
one_mapped f false n = refl

-- those below n, and those from n on
passing_on :
    (t : ℕ → Bool) (n m : ℕ) → passing t (n + m) ≡ passing t n ++ map (λ k. n + k) (passing (λ k. t (n + k)) m)
unfolding passing
passing_on t n zero = rw add-zero (sym (append-nil (passing t n)))
passing_on t n (suc m) =
    let u : ℕ → Bool = λ k. t (n + k) in
    let f : ℕ → ℕ = λ k. n + k in
    rw (add-suc, map-append f (passing u m) (cond (u m) (m ∷ []) []), one_mapped f (u m) m, ← append_assoc, passing_on t n m)

-- RAM of an accepted length is not refused
pub ram_known : (n : ℕ) (refused : Bool) → ram_refused n ≡ false → refused ≡ ram_refused n → refused ≡ true → ⊥
ram_known n refused e p q = not_both refused q (p ∙ e)

module _ (ram : List ℕ) (s : Settings) (stack own : Window) (cell : ℕ) (kind : Kind) where
  abbrev here : ℕ → Bool
  here sub = shares_at ram s stack own cell kind sub

  -- ---- turns of the loop over one kind

  -- subaddress 0 is passed over
  pub first_shares_none : passing here 1 ≡ []
  unfolding passing shares_at
  first_shares_none = refl

  pub turn_shares :
      (sub : ℕ) (met : Bool) → 1 ≤ sub → sub ≤ 30 → met ≡ shares_window ram s stack own cell kind sub →
      here sub ≡ met
  unfolding shares_at
  turn_shares sub met l h e = rw (le-leb 1 sub l, le-leb sub 30 h, e)

  -- there is room for one that is found
  pub kind_fits :
      (sub count most : ℕ) → count ≡ 0 + length (passing here sub) →
      length (sharers_of_kind ram s stack own cell kind) ≤ most → sub < 32 → here sub ≡ true → count < most
  unfolding sharers_of_kind
  kind_fits sub count most e h l y =
      let room = place_before here sub 32 l y in
      let long = length-map (passing here 32) (cell_number kind) in
      omega arith

  -- subaddress 31 is passed over, too
  last_shares_none : passing here 32 ≡ passing here 31
  unfolding shares_at
  last_shares_none = passing_no here 31 refl

  pub kind_done :
      (sub : ℕ) (room now : List ℕ) (count : ℕ) → sub ≡ 31 → Run (cell_number kind) here sub 0 room now count →
      (now ≡ sets room 0 (sharers_of_kind ram s stack own cell kind))
      × (count ≡ length (sharers_of_kind ram s stack own cell kind))
  unfolding sharers_of_kind
  kind_done sub room now count e run = (
    rw last_shares_none (rw e at run.words),
    rw (length-map, last_shares_none) (rw (e, zero-add) at run.place),
  )

-- ---- the cells that meet are those of the three kinds

-- the kinds that are read
abbrev pub keeps_kind : Settings → Kind → Bool
keeps_kind s Receive = true
keeps_kind s Transmit = true
keeps_kind s Broadcast = has_broadcast_cells s

read_by_kind :
    (s : Settings) (kind : Kind) (sub : ℕ) → sub < 32 →
    is_read s (cell_number kind sub) ≡ ((leb 1 sub && leb sub 30) && keeps_kind s kind)
unfolding is_read cell_number
read_by_kind s Receive sub h =
    let m : (32 * 0 + sub) % 32 ≡ sub = omega arith in
    rw (m, lt-ltb (32 * 0 + sub) 64 (omega arith))
read_by_kind s Transmit sub h =
    let m : (32 * 1 + sub) % 32 ≡ sub = omega arith in
    rw (m, lt-ltb (32 * 1 + sub) 64 (omega arith))
read_by_kind s Broadcast sub h =
    let m : (32 * 2 + sub) % 32 ≡ sub = omega arith in
    rw (m, le-ltb (32 * 2 + sub) 64 (omega arith), lt-ltb (32 * 2 + sub) 96 (omega arith), and-true)

-- the same four tests in another order
and_turned : (a b c d : Bool) → ((a && b) && (c && d)) ≡ (a && (d && (c && b)))
and_turned true true true d = sym (and-true d)
and_turned true true false d = sym (and-false d)
and_turned true false c d = rw (and-false c, and-false d)
and_turned false b c d = refl

module _ (ram : List ℕ) (s : Settings) (cell : ℕ) where
  abbrev meet : ℕ → Bool
  meet other = cells_meet ram s cell other

  abbrev of_kind : Kind → List ℕ
  of_kind kind = map (cell_number kind) (passing (λ sub. meet (cell_number kind sub)) 32)

  by_kinds : passing meet 96 ≡ of_kind Receive ++ of_kind Transmit ++ of_kind Broadcast
  unfolding cell_number passing
  by_kinds =
      let receive = passing_on meet 0 32 in
      let transmit = passing_on meet 32 32 ∙ ap (λ (l : List ℕ). l ++ of_kind Transmit) receive in
      passing_on meet 64 32 ∙ ap (λ (l : List ℕ). l ++ of_kind Broadcast) transmit

  -- of a kind that is not read none meets
  kind_unread : (kind : Kind) → keeps_kind s kind ≡ false → of_kind kind ≡ []
  unfolding cells_meet takes_part read_and_sound
  kind_unread kind e =
      let none : passing (λ sub. meet (cell_number kind sub)) 32 ≡ [] =
      passing_none (λ sub. meet (cell_number kind sub)) 32
      (λ sub h. rw (read_by_kind s kind sub h, e, and-false (leb 1 sub && leb sub 30), and-false (takes_part ram s cell))) in
      rw none

  part_by_kind :
      (kind : Kind) (sub : ℕ) → sub < 32 → keeps_kind s kind ≡ true →
      takes_part ram s (cell_number kind sub)
      ≡ ((leb 1 sub && leb sub 30) && sound_cell (length ram) (stack_window ram s) (cell_at ram s.area kind sub))
  unfolding takes_part read_and_sound
  part_by_kind kind sub h k =
      rw (read_by_kind s kind sub h, k, and-true (leb 1 sub && leb sub 30), numbered_cell ram s kind sub h)

  module _ (part : takes_part ram s cell ≡ true) (stack own : Window)
      (e : stack ≡ stack_window ram s) (o : own ≡ window_numbered ram s cell) where
    meets_here :
        (kind : Kind) (sub : ℕ) → sub < 32 → keeps_kind s kind ≡ true →
        shares_at ram s stack own cell kind sub ≡ meet (cell_number kind sub)
    unfolding cells_meet shares_at shares_window
    meets_here kind sub h k =
        let here = cell_at ram s.area kind sub in
        rw (part, part_by_kind kind sub h k, numbered_cell ram s kind sub h, e, o)
        (sym
        (and_turned (leb 1 sub && leb sub 30) (sound_cell (length ram) (stack_window ram s) here)
        (not (eqb (cell_number kind sub) cell)) (windows_meet (window_numbered ram s cell) (cell_window here))))

    kind_read : (kind : Kind) → keeps_kind s kind ≡ true → sharers_of_kind ram s stack own cell kind ≡ of_kind kind
    unfolding sharers_of_kind
    kind_read kind k =
        rw (passing_same (shares_at ram s stack own cell kind) (λ sub. meet (cell_number kind sub)) 32
        (λ sub h. meets_here kind sub h k))

    abbrev found : Kind → List ℕ
    found kind = sharers_of_kind ram s stack own cell kind

    -- with the broadcast cells, and where they are not read without them
    pub kinds_all :
        has_broadcast_cells s ≡ true → meeting_cells ram s cell ≡ found Receive ++ found Transmit ++ found Broadcast
    unfolding meeting_cells
    kinds_all b = rw (kind_read Receive refl, kind_read Transmit refl, kind_read Broadcast b) by_kinds

    pub kinds_low : has_broadcast_cells s ≡ false → meeting_cells ram s cell ≡ found Receive ++ found Transmit
    unfolding meeting_cells
    kinds_low b =
        rw (kind_read Receive refl, kind_read Transmit refl)
        (by_kinds ∙ rw (kind_unread Broadcast b) (append-nil (of_kind Receive ++ of_kind Transmit)))

    -- there is room for them
    pub low_fit : length (found Receive) + length (found Transmit) ≤ 89
    unfolding meeting_cells
    low_fit =
        let few : length (passing meet 96) ≤ 89 = meeting_most ram s cell in
        let long : length (passing meet 96) ≡ length (of_kind Receive) + length (of_kind Transmit) + length (of_kind Broadcast) =
        rw (by_kinds, length-append, length-append) in
        rw (kind_read Receive refl, kind_read Transmit refl) (omega arith)

    pub all_fit : has_broadcast_cells s ≡ true → length (found Receive) + length (found Transmit) + length (found Broadcast) ≤ 89
    all_fit b =
        let long : length (meeting_cells ram s cell) ≡ length (found Receive) + length (found Transmit) + length (found Broadcast) =
        rw (kinds_all b, length-append, length-append) in
        omega (arith, meeting_most ram s cell)

    -- one kind after the other, each into the room that is left
    module _ (n₀ n₁ : List ℕ) (a : ℕ) (long : length n₀ ≡ 89) (p : n₁ ≡ sets n₀ 0 (found Receive)) (q : a ≡ length (found Receive)) where
      abbrev room₁ : List ℕ
      room₁ = mid_of a (89 - a) n₁

      same₁ : length n₁ ≡ 89
      same₁ = rw (p, length-sets) long

      pub transmit_room : length (found Transmit) ≤ length room₁
      transmit_room = rw (mid_len a 89 n₁ (omega (arith, same₁))) (omega (arith, low_fit))

      module _ (now₁ : List ℕ) (b : ℕ) (r : now₁ ≡ sets room₁ 0 (found Transmit)) (t : b ≡ length (found Transmit)) where
        abbrev n₂ : List ℕ
        n₂ = put_mid a (89 - a) n₁ now₁

        abbrev room₂ : List ℕ
        room₂ = mid_of (a + b) (89 - (a + b)) n₂

        two : n₂ ≡ sets n₀ 0 (found Receive ++ found Transmit)
        two =
            rw (r, run_tail n₁ (found Transmit) 89 a same₁ (omega (arith, low_fit)), p, q)
            (rw zero-add at (run_append n₀ (found Receive) (found Transmit) 0))

        two_long : a + b ≡ length (found Receive ++ found Transmit)
        two_long = rw (q, t, length-append)

        same₂ : length n₂ ≡ 89
        same₂ = rw (two, length-sets) long

        pub found_low :
            has_broadcast_cells s ≡ false → (n₂ ≡ sets n₀ 0 (meeting_cells ram s cell)) × (a + b ≡ length (meeting_cells ram s cell))
        found_low off = (rw (kinds_low off) two, rw (kinds_low off) two_long)

        pub broadcast_room : has_broadcast_cells s ≡ true → length (found Broadcast) ≤ length room₂
        broadcast_room on = rw (mid_len (a + b) 89 n₂ (omega (arith, same₂))) (omega (arith, all_fit on))

        pub found_all :
            has_broadcast_cells s ≡ true → (now₂ : List ℕ) (e : ℕ) → now₂ ≡ sets room₂ 0 (found Broadcast) →
            e ≡ length (found Broadcast) →
            (put_mid (a + b) (89 - (a + b)) n₂ now₂ ≡ sets n₀ 0 (meeting_cells ram s cell))
            × (a + b + e ≡ length (meeting_cells ram s cell))
        found_all on now₂ e u v = (
          rw (kinds_all on, u, run_tail n₂ (found Broadcast) 89 (a + b) same₂ (omega (arith, all_fit on)), two_long, two)
              (rw zero-add at (run_append n₀ (found Receive ++ found Transmit) (found Broadcast) 0)),
          rw (kinds_all on, length-append, two_long, v),
        )
