-- `write_slice` meets its contract.
use native.Mathlib.Omega.{arith}
use mathlib.Core.Path.{refl}
use lib.Seq.{length-sets}
use Rattle.text.proofs.Runs.{put_here, part_set}
use Rattle.text.proofs.text.Text.write_slice.Goals as goal

pub returns : goal.returns
returns c =
    let t = c.args.self.now in
    let e = part_set t.out.now c.args.s.now _ t.at _ c.copy_from_slice.ensures.after (omega arith) (omega arith) in
    record { put = put_here (omega arith) (omega arith) e (omega arith); lent = refl; name = refl; length = rw (e, length-sets) }
