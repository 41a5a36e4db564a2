-- `zero_value` meets its contract: the default of each field.
use Rattle.records.specs.Value.{zero_value}
use Rattle.records.proofs.Turns.{zeros_of}
use Rattle.records.proofs.value.zero_value.Goals as goal

pub returns : goal.returns
unfolding zero_value
returns c =
    let of = c.default.ensures in
    λ i. record {
      command = of.0 i;
      transmit_command = of.1.0 i;
      tag = of.1.1.0 i;
      flags = of.1.1.1.0 i;
      count = of.1.1.1.1.0 i;
      words = zeros_of c.default.result.words 32 of.1.1.1.1.1 i;
    }
