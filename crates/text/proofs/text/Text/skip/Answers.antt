-- `skip` meets its contract: what begins past the end leaves the buffer.
use native.Mathlib.Omega.{arith}
use mathlib.Core.Path.{refl}
use Rattle.text.proofs.Runs.{put_out}
use Rattle.text.proofs.text.Text.skip.Goals as goal

pub returns : goal.returns
returns c text h =
    record { put = put_out (omega arith) c.requires (rw h c.saturating_add-self.ensures); lent = refl; name = refl; length = refl }
