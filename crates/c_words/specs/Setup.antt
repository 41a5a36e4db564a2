-- Settings and remembered state as plain words.
use Rattle.std.specs.Prelude.{ℕ, cond, List, [], ◌∷◌, eqb}
use Rattle.words.specs.declared.settings.Settings.{Settings}
use Rattle.words.specs.declared.settings.Area.{Area}
use Rattle.words.specs.declared.settings.Area.TheVariants.{A, B}
use Rattle.words.specs.declared.remembered.Remembered.{Remembered}
use Rattle.c_words.specs.Fields.{word_in, yes_in, no_in}

-- area A is 0, area B any other word
unfoldable pub area_from : ℕ → Area
area_from w = cond (eqb w 0) A B

-- twelve words: address, area, stack size, the yes/no settings in document 01's order, and broadcast off. The last one
-- says "off", so that who lends the eleven words of before has broadcast on, as before.
unfoldable pub settings_from : List ℕ → Settings
settings_from xs =
    record {
      address = word_in xs 0;
      area = area_from (word_in xs 1);
      stack_size = word_in xs 2;
      overwrite_invalid = yes_in xs 3;
      separate_broadcast = yes_in xs 4;
      illegal_receive_disable = yes_in xs 5;
      busy_receive_disable = yes_in xs 6;
      busy_always = yes_in xs 7;
      service_request = yes_in xs 8;
      subsystem_flag = yes_in xs 9;
      terminal_flag = yes_in xs 10;
      broadcast = no_in xs 11;
    }

-- two words: last command, last status
abbrev pub remembered_length : ℕ
remembered_length = 2

unfoldable pub remembered_from : List ℕ → Remembered
remembered_from xs = record { command = word_in xs 0; status = word_in xs 1 }

unfoldable pub remembered_words : Remembered → List ℕ
remembered_words m = m.command ∷ m.status ∷ []
