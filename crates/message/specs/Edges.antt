-- The cases marked P of "Both sides of each edge", as one table, and three on the 64K card: what each case starts from,
-- and the row that it must give.
use Rattle.std.specs.Prelude.{ℕ, ◌+◌, ◌%◌, Bool, true, false, List, [], ◌∷◌, ◌++◌, replicate}
use Rattle.records.specs.declared.value.Record.{Record}
use Rattle.words.specs.declared.settings.Settings.{Settings}
use Rattle.words.specs.declared.remembered.Remembered.{Remembered}
use Rattle.words.specs.Command.{subaddress_of, count_field}
use Rattle.words.specs.Settings.{is_own, plain_settings}
use Rattle.words.specs.Remembered.{nothing_remembered, remembering}
use Rattle.records.specs.Value.{zero_words}
use Rattle.words.specs.Fill.{fill}
use Rattle.memory.specs.Map.{illegal_place, busy_place}
use Rattle.memory.specs.State.{State, state_of}
use Rattle.plan.specs.declared.plan.Plan.{Plan}
use Rattle.message.specs.declared.answer.Answer.{Answer}
use Rattle.faults.specs.Fault.{expected_words}
use Rattle.writes.specs.Writes.{writes_of}
use Rattle.memory.specs.Writes.{Write, apply_writes, writes_to}
use Rattle.writes.specs.Reply.{reply_words}
use Rattle.message.specs.Heard.{heard_value}
use Rattle.message.specs.Message.{plan_for, answer_of, step}

-- what a case starts from: blank RAM of so many words with some of them written, settings, the record
pub record Case : Type 0 where
  pub words : ℕ
  pub image : List Write
  pub settings : Settings
  pub value : Record

-- a bit of a table of RAM
pub record TableBit : Type 0 where
  pub word : ℕ
  pub bit : ℕ

-- what a case gives: the answer, what is remembered, the words sent, the words written to RAM in order, and what the
-- command alone says: how many words are expected, and where its illegal and busy bits are
pub record Row : Type 0 where
  pub answer : Answer
  pub remembered : Remembered
  pub sends : List ℕ
  pub writes : List Write
  pub expects : ℕ
  pub illegal : TableBit
  pub busy : TableBit

abbrev pub image_of : Case → List ℕ
image_of c = apply_writes c.image (replicate c.words 0)

abbrev pub start_of : Case → State
start_of c = state_of (image_of c) (replicate 33 0) nothing_remembered

abbrev pub plan_in : Case → Plan
plan_in c = plan_for c.settings c.value (start_of c)

unfoldable pub run_case : Case → Row
run_case c =
    record {
      answer = answer_of c.settings (heard_value c.value) (start_of c);
      remembered = (step c.settings (heard_value c.value) (start_of c)).remembered;
      sends = reply_words (image_of c) (plan_in c).deed;
      writes = writes_of c.settings (plan_in c) c.value;
      expects = expected_words c.value.command;
      illegal =
          record {
            word = illegal_place (is_own c.settings c.value.command) c.value.command;
            bit = count_field c.value.command % 16;
          };
      busy =
          record {
            word = busy_place (is_own c.settings c.value.command) c.value.command;
            bit = subaddress_of c.value.command % 16;
          };
    }

-- ---- the cases: "RT 5, SA 3"

abbrev pub put : ℕ → ℕ → Write
put at word = record { at = at; word = word }

-- the pointer, and the control word: circular with the circular interrupt, of 128 words or another size, or double
abbrev circle : ℕ → ℕ → List Write
circle control pointer = put 0x143 pointer ∷ put 0x1A3 control ∷ []

abbrev circular : ℕ → List Write
circular pointer = circle 0x120 pointer

abbrev double : ℕ → List Write
double pointer = put 0x143 pointer ∷ put 0x1A3 0x8000 ∷ []

-- time tag 0789; the words 1, 2, 3 and so on
abbrev heard : ℕ → ℕ → ℕ → Record
heard command flags count =
    record {
      command = command;
      transmit_command = 0;
      tag = 0x789;
      flags = flags;
      count = count;
      words = fill (λ k. k + 1) zero_words count;
    }

abbrev case : List Write → Bool → Record → Case
case image overwrite v = record { words = 4096; image = image; settings = plain_settings overwrite; value = v }

abbrev large : List Write → Record → Case
large image v = record { words = 65536; image = image; settings = plain_settings true; value = v }

unfoldable pub cases : List Case
cases =
    -- P1 command 2864 valid
    case (circular 0x47E) true (heard 0x2864 0 4)
    -- P2 pointer 047C, 4 words
    ∷ case (circular 0x47C) true (heard 0x2864 0 4)
    -- P3 pointer 047B
    ∷ case (circular 0x47B) true (heard 0x2864 0 4)
    -- P4 count 2 of 4, overwrite-invalid on
    ∷ case (circular 0x47E) true (heard 0x2864 0 2)
    -- P5 off
    ∷ case (circular 0x47E) false (heard 0x2864 0 2)
    -- P6 count 2 with invalid word, overwrite-invalid on
    ∷ case (circular 0x47E) true (heard 0x2864 4 2)
    -- P7 double, pointer 0420, valid
    ∷ case (double 0x420) true (heard 0x2864 0 4)
    -- P8 faulty
    ∷ case (double 0x420) true (heard 0x2864 0 3)
    -- P9 command 2860
    ∷ case (circular 0x47E) true (heard 0x2860 0 32)
    -- P10 2864's illegal bit
    ∷ case (put 0x386 0x10 ∷ circular 0x47E) true (heard 0x2864 0 4)
    -- P11 its busy bit
    ∷ case (put 0x244 8 ∷ circular 0x47E) true (heard 0x2864 0 4)
    -- P12 broadcast F864, valid
    ∷ case (circular 0x47E) true (heard 0xF864 0 4)
    -- "Circular sizes 4,096 and 8,192 become usable where sound.": over the end of 8,192 words from 2000
    ∷ large (circle 0x1E0 0x3FFE) (heard 0x2864 0 4)
    -- of 4,096 words that end with RAM
    ∷ large (circle 0x1C0 0xFFFE) (heard 0x2864 0 4)
    -- "the highest stack pointer 4 below its length", and 4,096 words from 1000
    ∷ large (put 0x100 0xFFFC ∷ circle 0x1C0 0x1FFE) (heard 0x2864 0 4)
    ∷ []

-- ---- the rows

-- an answer of cell 3, done; no transmit is among the cases, so no data words are sent
abbrev done : ℕ → ℕ → ℕ → ℕ → Bool → ℕ → Answer
done block before after status answered interrupt =
    record {
      number = 0;
      block_status = block;
      cell = 3;
      before = before;
      after = after;
      status = status;
      answered = answered;
      sent = 0;
      interrupt = interrupt;
    }

-- the four stack words at 0000, and the stack pointer
abbrev entry : ℕ → ℕ → ℕ → List Write
entry block before command =
    put 0 block ∷ put 1 0x789 ∷ put 2 before ∷ put 3 command ∷ put 0x100 4 ∷ []

abbrev bit : ℕ → ℕ → TableBit
bit word b = record { word = word; bit = b }

unfoldable pub expected : List Row
expected =
    -- P1
    record {
      answer = done 0x8080 0x47E 0x402 0x2800 true 0x403;
      remembered = remembering nothing_remembered 0x2864 0x2800;
      sends = 0x2800 ∷ [];
      writes = put 0x47E 1 ∷ put 0x47F 2 ∷ put 0x400 3 ∷ put 0x401 4 ∷ put 0x143 0x402 ∷ entry 0x8080 0x47E 0x2864;
      expects = 4;
      illegal = bit 0x386 4;
      busy = bit 0x244 3;
    }
    -- P2
    ∷ record {
      answer = done 0x8080 0x47C 0x400 0x2800 true 0x403;
      remembered = remembering nothing_remembered 0x2864 0x2800;
      sends = 0x2800 ∷ [];
      writes = put 0x47C 1 ∷ put 0x47D 2 ∷ put 0x47E 3 ∷ put 0x47F 4 ∷ put 0x143 0x400 ∷ entry 0x8080 0x47C 0x2864;
      expects = 4;
      illegal = bit 0x386 4;
      busy = bit 0x244 3;
    }
    -- P3
    ∷ record {
      answer = done 0x8000 0x47B 0x47F 0x2800 true 0x3;
      remembered = remembering nothing_remembered 0x2864 0x2800;
      sends = 0x2800 ∷ [];
      writes = put 0x47B 1 ∷ put 0x47C 2 ∷ put 0x47D 3 ∷ put 0x47E 4 ∷ put 0x143 0x47F ∷ entry 0x8000 0x47B 0x2864;
      expects = 4;
      illegal = bit 0x386 4;
      busy = bit 0x244 3;
    }
    -- P4
    ∷ record {
      answer = done 0x9420 0x47E 0x47E 0x2C00 false 0x13;
      remembered = remembering nothing_remembered 0x2864 0x2C00;
      sends = [];
      writes = put 0x47E 1 ∷ put 0x47F 2 ∷ entry 0x9420 0x47E 0x2864;
      expects = 4;
      illegal = bit 0x386 4;
      busy = bit 0x244 3;
    }
    -- P5
    ∷ record {
      answer = done 0x94A0 0x47E 0x400 0x2C00 false 0x413;
      remembered = remembering nothing_remembered 0x2864 0x2C00;
      sends = [];
      writes = put 0x47E 1 ∷ put 0x47F 2 ∷ put 0x143 0x400 ∷ entry 0x94A0 0x47E 0x2864;
      expects = 4;
      illegal = bit 0x386 4;
      busy = bit 0x244 3;
    }
    -- P6
    ∷ record {
      answer = done 0x9408 0x47E 0x47E 0x2C00 false 0x13;
      remembered = remembering nothing_remembered 0x2864 0x2C00;
      sends = [];
      writes = put 0x47E 1 ∷ put 0x47F 2 ∷ entry 0x9408 0x47E 0x2864;
      expects = 4;
      illegal = bit 0x386 4;
      busy = bit 0x244 3;
    }
    -- P7
    ∷ record {
      answer = done 0x8000 0x420 0x400 0x2800 true 0x3;
      remembered = remembering nothing_remembered 0x2864 0x2800;
      sends = 0x2800 ∷ [];
      writes = put 0x420 1 ∷ put 0x421 2 ∷ put 0x422 3 ∷ put 0x423 4 ∷ put 0x143 0x400 ∷ entry 0x8000 0x420 0x2864;
      expects = 4;
      illegal = bit 0x386 4;
      busy = bit 0x244 3;
    }
    -- P8
    ∷ record {
      answer = done 0x9420 0x420 0x420 0x2C00 false 0x13;
      remembered = remembering nothing_remembered 0x2864 0x2C00;
      sends = [];
      writes = put 0x420 1 ∷ put 0x421 2 ∷ put 0x422 3 ∷ entry 0x9420 0x420 0x2864;
      expects = 4;
      illegal = bit 0x386 4;
      busy = bit 0x244 3;
    }
    -- P9
    ∷ record {
      answer = done 0x8080 0x47E 0x41E 0x2800 true 0x403;
      remembered = remembering nothing_remembered 0x2860 0x2800;
      sends = 0x2800 ∷ [];
      writes =
          put 0x47E 1 ∷ put 0x47F 2 ∷ (writes_to (λ k. 0x400 + k) (λ k. 3 + k) 30 ++ (put 0x143 0x41E ∷ entry 0x8080 0x47E 0x2860));
      expects = 32;
      illegal = bit 0x386 0;
      busy = bit 0x244 3;
    }
    -- P10
    ∷ record {
      answer = done 0x80C0 0x47E 0x402 0x2C00 true 0x4403;
      remembered = remembering nothing_remembered 0x2864 0x2C00;
      sends = 0x2C00 ∷ [];
      writes = put 0x47E 1 ∷ put 0x47F 2 ∷ put 0x400 3 ∷ put 0x401 4 ∷ put 0x143 0x402 ∷ entry 0x80C0 0x47E 0x2864;
      expects = 4;
      illegal = bit 0x386 4;
      busy = bit 0x244 3;
    }
    -- P11
    ∷ record {
      answer = done 0x8080 0x47E 0x402 0x2808 true 0x403;
      remembered = remembering nothing_remembered 0x2864 0x2808;
      sends = 0x2808 ∷ [];
      writes = put 0x47E 1 ∷ put 0x47F 2 ∷ put 0x400 3 ∷ put 0x401 4 ∷ put 0x143 0x402 ∷ entry 0x8080 0x47E 0x2864;
      expects = 4;
      illegal = bit 0x386 4;
      busy = bit 0x244 3;
    }
    -- P12
    ∷ record {
      answer = done 0x8080 0x47E 0x402 0x2810 false 0x403;
      remembered = remembering nothing_remembered 0xF864 0x2810;
      sends = [];
      writes = put 0x47E 1 ∷ put 0x47F 2 ∷ put 0x400 3 ∷ put 0x401 4 ∷ put 0x143 0x402 ∷ entry 0x8080 0x47E 0xF864;
      expects = 4;
      illegal = bit 0x306 4;
      busy = bit 0x240 3;
    }
    -- 8,192 words from 2000
    ∷ record {
      answer = done 0x8080 0x3FFE 0x2002 0x2800 true 0x403;
      remembered = remembering nothing_remembered 0x2864 0x2800;
      sends = 0x2800 ∷ [];
      writes = put 0x3FFE 1 ∷ put 0x3FFF 2 ∷ put 0x2000 3 ∷ put 0x2001 4 ∷ put 0x143 0x2002 ∷ entry 0x8080 0x3FFE 0x2864;
      expects = 4;
      illegal = bit 0x386 4;
      busy = bit 0x244 3;
    }
    -- 4,096 words that end with RAM
    ∷ record {
      answer = done 0x8080 0xFFFE 0xF002 0x2800 true 0x403;
      remembered = remembering nothing_remembered 0x2864 0x2800;
      sends = 0x2800 ∷ [];
      writes = put 0xFFFE 1 ∷ put 0xFFFF 2 ∷ put 0xF000 3 ∷ put 0xF001 4 ∷ put 0x143 0xF002 ∷ entry 0x8080 0xFFFE 0x2864;
      expects = 4;
      illegal = bit 0x386 4;
      busy = bit 0x244 3;
    }
    -- the stack's last entry, and 4,096 words from 1000
    ∷ record {
      answer = done 0x8080 0x1FFE 0x1002 0x2800 true 0x443;
      remembered = remembering nothing_remembered 0x2864 0x2800;
      sends = 0x2800 ∷ [];
      writes =
          put 0x1FFE 1 ∷ put 0x1FFF 2 ∷ put 0x1000 3 ∷ put 0x1001 4 ∷ put 0x143 0x1002
          ∷ put 0xFFFC 0x8080 ∷ put 0xFFFD 0x789 ∷ put 0xFFFE 0x1FFE ∷ put 0xFFFF 0x2864 ∷ put 0x100 0xFF00 ∷ [];
      expects = 4;
      illegal = bit 0x386 4;
      busy = bit 0x244 3;
    }
    ∷ []
