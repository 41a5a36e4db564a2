-- Demand 2, proved.
use mathlib.Core.Path.{refl}
use Rattle.message.proofs.Edges.{edges}
use Rattle.demands.specs.Calls.{bytes_message, long_message, shows}
use Rattle.demands.specs.Second.{Demand}
use Rattle.demands.proofs.Worked.{message_worked}
use Rattle.demands.proofs.Served.{served_meets}
use Rattle.demands.proofs.Called.{performed_plan, call_served}
use Rattle.demands.proofs.Walks.{walks}
use Rattle.demands.proofs.Filled.{entry_is_answer, exported_entry_is_answer}
use Rattle.demands.proofs.Back.{gives_value, gives_bytes, takes_value, back_read, back_written}
use Rattle.demands.proofs.Long.{gives_long, gives_long_bytes, gives_longer, gives_shorter, goes_back, goes_on, same_message, same_heard, lower_half}

pub second : Demand
second =
    record {
      message = λ c. (served_meets (shows c) (call_served c)).second;
      plan_bytes = λ c. performed_plan _ _ _ c.back c.allowed.0;
      plan_value = λ c. performed_plan _ _ _ c.back c.allowed.0;
      plan_long = λ c. performed_plan _ _ _ c.back c.allowed.0;
      walk = walks;
      same_as_old =
          λ c d h e same s x.
          same_message (long_message c) (bytes_message d) c.allowed.0 c.allowed.1 d.allowed.0 d.allowed.1 s
          (same_heard c.given.1.1.1.1.0.now d.given.1.1.1.1.0.now h e same)
          x;
      lower_half =
          λ c z.
          lower_half (long_message c) c.given.1.1.1.1.0.now refl
          ((message_worked (long_message c) c.allowed.0 c.allowed.1).worked z);
      edges = edges;
      read = λ r z. gives_value r.given.0.now r.back r.allowed z;
      write = λ w z. gives_bytes w.given.0 w.back w.allowed z;
      view = λ t f z. takes_value t.given.0.now t.given.1.0 t.back t.allowed f z;
      read_written = λ w r. back_read w.given.0 r.given.0.now w.back r.back w.allowed r.allowed;
      written_read =
          λ r w. back_written r.given.0.now w.given.0 r.back w.back r.allowed w.allowed;
      read_any = λ c. c.allowed;
      write_any = λ c. c.allowed;
      read_long_call = λ r z. gives_long r.given.0.now r.back r.allowed z;
      write_long_call = λ w z. gives_long_bytes w.given.0 w.back w.allowed z;
      read_any_long = λ c. c.allowed;
      write_any_long = λ c. c.allowed;
      longer = λ c z. gives_longer c.given.0.now c.back c.allowed z;
      shorter = λ c z. gives_shorter c.given.0.now c.back c.allowed z;
      there_and_back =
          λ c d. goes_back c.given.0.now d.given.0.now c.back d.back c.allowed d.allowed;
      back_and_there =
          λ c d. goes_on c.given.0.now d.given.0.now c.back d.back c.allowed d.allowed;
      every_address = entry_is_answer;
      exported_every_address = exported_entry_is_answer;
    }
