-- `put_cut` meets its contract: what there is room for, and what lies past the end.
use Prim.Native.Nat.{◌-◌}
use lib.ListN.{length, drop, length-drop}
use Rattle.std.proofs.lemmas.List.{take-append-drop}
use Rattle.text.proofs.Added.{adds_then, adds_same}
use Rattle.text.proofs.text.Text.put_cut.Goals as goal

pub returns : goal.returns
returns c =
    let s = c.args.s.now in
    let room = length c.args.self.now.out.now - c.args.self.now.at in
    adds_same (take-append-drop room s) (adds_then c.write_slice.ensures (c.skip.ensures (drop room s) (length-drop room s)))
