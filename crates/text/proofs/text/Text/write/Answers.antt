-- `write` meets its contract.
use native.Mathlib.Omega.{arith}
use mathlib.Core.Path.{◌≡◌, refl}
use lib.ListN.{length}
use lib.Seq.{length-sets}
use Rattle.text.proofs.Runs.{put_here, part_set}
use Rattle.text.proofs.text.Text.write.Goals as goal

pub returns : goal.returns
returns g c =
    let t = c.args.self.now in
    let n : length c.args.bytes ≡ g.row.N = omega arith in
    let e = part_set t.out.now c.args.bytes _ t.at _ c.copy_from_slice.ensures.after (omega arith) (omega arith) in
    record { put = put_here (omega arith) (omega arith) e (omega arith); lent = refl; name = refl; length = rw (e, length-sets) }
