-- What taking a record at a place gives, by whether 80 bytes are there.
use Prim.Native.Nat.{ℕ, ◌+◌, ◌-◌, ◌≤◌, ◌<◌}
use native.Mathlib.Omega.{arith}
use mathlib.Core.Path.{◌≡◌}
use mathlib.Core.Bool.{true}
use mathlib.Core.List.{List}
use lib.ListN.{length, take, drop}
use borrow.Author.Tests.{le-leb, lt-leb}
use Rattle.layout.specs.Layout.{read_record}
use Rattle.trace_view.specs.View.{none_at, taken_at}

pub taken_none : (trace : List ℕ) (at : ℕ) → length trace < at + 80 → taken_at trace at ≡ none_at at
unfolding taken_at
taken_none trace at h = rw (lt-leb (at + 80) (length trace) h)

pub taken_some :
    (trace : List ℕ) (at : ℕ) →
    at + 80 ≤ length trace →
    taken_at trace at
    ≡ record { found = true; at = at + 80; reading = read_record (take (at + 80 - at) (drop at trace)) }
unfolding taken_at
taken_some trace at h =
    let e : at + 80 - at ≡ 80 = omega arith in
    rw (le-leb (at + 80) (length trace) h, e)
