-- `put_accepted` meets its contract.
use borrow.Author.Rules.{rules}
use mathlib.Core.Path.{refl}
use Rattle.text.proofs.Added.{adds_same, aside_fits, aside_long, aside_taken}
use Rattle.text.proofs.Lines.{accepted_most}
use Rattle.text.proofs.text.Text.put_accepted.Goals as goal

pub slice_bounds-room-end : goal.slice_bounds-room-end
slice_bounds-room-end c =
    aside_fits c.write_accepted.ensures (search rules) refl (accepted_most c.args.a c.requires)

pub slice_bounds-put_bytes-end : goal.slice_bounds-put_bytes-end
slice_bounds-put_bytes-end c =
    aside_long c.write_accepted.ensures (search rules) refl (accepted_most c.args.a c.requires)

pub returns : goal.returns
returns c =
    adds_same (aside_taken c.write_accepted.ensures (search rules) refl (accepted_most c.args.a c.requires))
    c.put_bytes.ensures
