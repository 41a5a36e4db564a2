-- `put_aside` meets its contract.
use native.Mathlib.Omega.{arith}
use borrow.Author.Rules.{rules}
use mathlib.Core.Path.{refl}
use Rattle.text.proofs.Added.{adds_same, aside_fits, aside_long, aside_taken}
use Rattle.text.proofs.Numerals.{decimal_most}
use Rattle.text.proofs.text.Text.put_aside.Goals as goal

pub slice_bounds-room-end : goal.slice_bounds-room-end
slice_bounds-room-end c =
    aside_fits c.write_decimal.ensures (search rules) refl (omega (arith, decimal_most c.args.n))

pub slice_bounds-put_bytes-end : goal.slice_bounds-put_bytes-end
slice_bounds-put_bytes-end c =
    aside_long c.write_decimal.ensures (search rules) refl (omega (arith, decimal_most c.args.n))

pub returns : goal.returns
returns c =
    adds_same (aside_taken c.write_decimal.ensures (search rules) refl (omega (arith, decimal_most c.args.n)))
    c.put_bytes.ensures
