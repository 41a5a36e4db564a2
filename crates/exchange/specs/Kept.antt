-- What a message keeps: all that it shows, but for the stack-rollover bit.
use Rattle.std.specs.Prelude.{ℕ, ◌-◌, ◌*◌, ◌/◌, ◌%◌}
use Rattle.message.specs.Answer.{with_interrupt}
use Rattle.message.specs.Run.{Effect}

-- interrupt bit 6, "stack wrapped", cleared
unfoldable pub without_wrap : ℕ → ℕ
without_wrap interrupt = interrupt - 0x40 * (interrupt / 0x40 % 2)

-- "its reply, descriptor and interrupt word, except the stack-rollover bit": the whole effect but for this bit
unfoldable pub without_stack_rollover : Effect → Effect
without_stack_rollover e =
    record {
      answer = with_interrupt e.answer (without_wrap e.answer.interrupt);
      sends = e.sends;
      descriptor = e.descriptor;
    }
