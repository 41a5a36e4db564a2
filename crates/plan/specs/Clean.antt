-- For the code alone: the way of a clean message. `clean_act_lem` shows that its act is `act_of`.
use Rattle.std.specs.Prelude.{ℕ, Bool, true, false, cond, ◌||◌, leb}
use Rattle.words.specs.Command.{transmits, word_count}
use Rattle.plan.specs.declared.act.Act.{Act}

-- what makes a message other than clean: illegal, busy, broadcast, any flag but the bus, a wrong count
unfoldable pub is_unclean : Bool → Bool → Bool → ℕ → Bool → Bool
is_unclean illegal busy broadcast flags miscounted = (illegal || busy) || (broadcast || (leb 2 flags || miscounted))

-- the act of a clean message: no fault, and all its words stored or sent
unfoldable pub clean_act : ℕ → Act
clean_act command =
    record {
      faults =
          record {
            sync = false;
            invalid = false;
            count = false;
            contents = false;
            no_status = false;
            gap = false;
            second = false;
          };
      valid = true;
      stored = cond (transmits command) 0 (word_count command);
      sent = cond (transmits command) (word_count command) 0;
      k = word_count command;
    }
