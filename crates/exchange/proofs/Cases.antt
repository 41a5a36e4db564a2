-- The cases computed, in one statement. In the first three the exchange is allowed: descriptors change places on the
-- stack, and in the second the stack-rollover bit passes to the other message; all that demand 3 says holds. In each of
-- the others one condition fails, and with it what demand 3 says: other words are sent, or a message is refused.
use Prim.Native.Nat.{ℕ}
use mathlib.Core.Path.{◌≡◌, refl}
use mathlib.Core.Bool.{true, false}
use mathlib.Core.List.{List, [], ◌∷◌, ◌++◌, map}
use Rattle.words.specs.Bits.{bits_of}
use Rattle.words.specs.Command.{word_count, is_mode_subaddress}
use Rattle.words.specs.Settings.{stack_size_listed, settings_refused, is_own, is_broadcast, is_not_ours, has_broadcast_cells, program_settings}
use Rattle.words.specs.Refusal.{first_of}
use Rattle.records.specs.Transfer.{transfer_fails, breaks_transfer}
use Rattle.records.specs.Value.{lasts_zero, keeps_layout}
use Rattle.faults.specs.Fault.{expected_words, faults_of, faults_for, any_fault}
use Rattle.memory.specs.Map.{ram_refused, stack_pointer_place, lookup_table, busy_place, is_busy_at, illegal_place, is_illegal_at}
use Rattle.memory.specs.Kind.{cell_number, kind_numbered, kind_of}
use Rattle.memory.specs.Rows.{row}
use Rattle.memory.specs.Writes.{apply_writes}
use Rattle.windows.specs.Window.{run_from, aligned, place_of, rolls_over, meets, meets_fixed}
use Rattle.cells.specs.Cell.{control_part, pick_scheme, lookup_at, cell_from, cell_at, window_of, double_fits, sound_cell}
use Rattle.cells.specs.Stack.{stack_pointer, stack_window, stack_sound}
use Rattle.lookup.specs.Target.{cell_for, is_illegal, is_busy, target_of}
use Rattle.plan.specs.Act.{withheld, words_stored, words_sent, act_with, act_of}
use Rattle.plan.specs.Motion.{may_move, stride, moves, motion_with, motion_of}
use Rattle.plan.specs.Report.{block_status, status_bits, status_word}
use Rattle.plan.specs.Deed.{signals_of, deed_with, deed_of}
use Rattle.plan.specs.Entry.{entry_of}
use Rattle.words.specs.Remembered.{nothing_remembered, remembering}
use Rattle.plan.specs.Plan.{interrupt_word, plan_with, plan_of}
use Rattle.writes.specs.Writes.{pointer_list, descriptor_of, entry_list, deed_list, stack_list, list_of}
use Rattle.writes.specs.Reply.{sent_behind, reply_writes, reply_words}
use Rattle.message.specs.Tests.{cell_unsound, refusal_for}
use Rattle.message.specs.Answer.{refused_with, accepted_with, answer_for}
use Rattle.message.specs.Message.{carried_out, state_for, answer_of, step}
use Rattle.area.specs.Area.{is_read, cell_numbered, is_unsound, or_else, lowest, lowest_unsound, area_refusal, check_area}
use Rattle.message.specs.Run.{run, effect_of, effects}
use Rattle.exchange.specs.Order.{swap_at, exchange_all}
use Rattle.exchange.specs.Condition.{well_formed, all_well_formed, may_exchange, allowed_at, allowed_all}
use Rattle.exchange.specs.Descriptors.{entries_on, last_of, stack_word}
use Rattle.exchange.specs.Kept.{without_wrap, without_stack_rollover}
use Rattle.exchange.specs.After.{kept_after, stack_after, remembered_last, remembered_after}
use Rattle.exchange.specs.Exchanged.{starts_well, takes_well, asked}
use Rattle.exchange.specs.Cases.{plain_ram, start_of, Order, order_of, Said, said_of, Seen, seen, cases}

abbrev pub order : List ℕ → List ℕ → List (List ℕ) → List ℕ → ℕ → ℕ → Order
order words numbers sends interrupts command status =
    record {
      words = words;
      numbers = numbers;
      sends = sends;
      interrupts = interrupts;
      remembered = remembering nothing_remembered command status;
    }

-- the first eight words of the block and the last four; what each sends; interrupt words; what is remembered
abbrev pub says : List ℕ → List ℕ → List (List ℕ) → List ℕ → ℕ → ℕ → Said
says first last sends interrupts command status =
    record {
      stack = first ++ last;
      sends = sends;
      interrupts = interrupts;
      remembered = remembering nothing_remembered command status;
    }

abbrev pub none : List ℕ
none = 0 ∷ 0 ∷ 0 ∷ 0 ∷ []

abbrev pub expected : List Seen
expected =
    -- two_receives
    record {
      asks = true;
      old =
          order (0x8080 ∷ 7 ∷ 0x4FE ∷ 0x2864 ∷ 0x9420 ∷ 8 ∷ 0x500 ∷ 0x2883 ∷ 8 ∷ 0x482 ∷ 1 ∷ 3 ∷ 5 ∷ []) (0 ∷ 0 ∷ [])
          ((0x2800 ∷ []) ∷ [] ∷ []) (3 ∷ 0x13 ∷ []) 0x2883 0x2C00;
      new =
          order (0x9420 ∷ 8 ∷ 0x500 ∷ 0x2883 ∷ 0x8080 ∷ 7 ∷ 0x4FE ∷ 0x2864 ∷ 8 ∷ 0x482 ∷ 1 ∷ 3 ∷ 5 ∷ []) (0 ∷ 0 ∷ [])
          ([] ∷ (0x2800 ∷ []) ∷ []) (0x13 ∷ 3 ∷ []) 0x2864 0x2800;
      said =
          says (0x9420 ∷ 8 ∷ 0x500 ∷ 0x2883 ∷ 0x8080 ∷ 7 ∷ 0x4FE ∷ 0x2864 ∷ []) none
          ([] ∷ (0x2800 ∷ []) ∷ []) (0x13 ∷ 3 ∷ []) 0x2864 0x2800;
    }
    -- two_transmits
    ∷ record {
      asks = true;
      old =
          order (0x8000 ∷ 7 ∷ 0x480 ∷ 0x2C62 ∷ 0x8000 ∷ 8 ∷ 0x481 ∷ 0x2C82 ∷ 4 ∷ 0x482 ∷ []) (0 ∷ 0 ∷ [])
          ((0x2800 ∷ 11 ∷ 12 ∷ []) ∷ (0x2800 ∷ 12 ∷ 13 ∷ []) ∷ []) (0x43 ∷ 3 ∷ []) 0x2C82 0x2800;
      new =
          order (0x8000 ∷ 8 ∷ 0x481 ∷ 0x2C82 ∷ 0x8000 ∷ 7 ∷ 0x480 ∷ 0x2C62 ∷ 4 ∷ 0x482 ∷ []) (0 ∷ 0 ∷ [])
          ((0x2800 ∷ 12 ∷ 13 ∷ []) ∷ (0x2800 ∷ 11 ∷ 12 ∷ []) ∷ []) (0x43 ∷ 3 ∷ []) 0x2C62 0x2800;
      said =
          says (0x8000 ∷ 7 ∷ 0x480 ∷ 0x2C62 ∷ none) (0x8000 ∷ 8 ∷ 0x481 ∷ 0x2C82 ∷ [])
          ((0x2800 ∷ 12 ∷ 13 ∷ []) ∷ (0x2800 ∷ 11 ∷ 12 ∷ []) ∷ []) (3 ∷ 3 ∷ []) 0x2C62 0x2800;
    }
    -- two_transfers
    ∷ record {
      asks = true;
      old =
          order (0x8880 ∷ 7 ∷ 0x4FE ∷ 0x2864 ∷ 0x9E00 ∷ 8 ∷ 0x500 ∷ 0x2883 ∷ 8 ∷ 0x482 ∷ 1 ∷ 3 ∷ 0 ∷ []) (0 ∷ 0 ∷ [])
          ((0x2800 ∷ []) ∷ [] ∷ []) (3 ∷ 0x13 ∷ []) 0x2883 0x2C00;
      new =
          order (0x9E00 ∷ 8 ∷ 0x500 ∷ 0x2883 ∷ 0x8880 ∷ 7 ∷ 0x4FE ∷ 0x2864 ∷ 8 ∷ 0x482 ∷ 1 ∷ 3 ∷ 0 ∷ []) (0 ∷ 0 ∷ [])
          ([] ∷ (0x2800 ∷ []) ∷ []) (0x13 ∷ 3 ∷ []) 0x2864 0x2800;
      said =
          says (0x9E00 ∷ 8 ∷ 0x500 ∷ 0x2883 ∷ 0x8880 ∷ 7 ∷ 0x4FE ∷ 0x2864 ∷ []) none
          ([] ∷ (0x2800 ∷ []) ∷ []) (0x13 ∷ 3 ∷ []) 0x2864 0x2800;
    }
    -- one_cell: the words sent are not those that the messages sent before
    ∷ record {
      asks = false;
      old =
          order (0x483 ∷ []) (0 ∷ 0 ∷ []) ((0x2800 ∷ 11 ∷ []) ∷ (0x2800 ∷ 12 ∷ 13 ∷ []) ∷ []) (3 ∷ 3 ∷ []) 0x2C62 0x2800;
      new =
          order (0x483 ∷ []) (0 ∷ 0 ∷ []) ((0x2800 ∷ 11 ∷ 12 ∷ []) ∷ (0x2800 ∷ 13 ∷ []) ∷ []) (3 ∷ 3 ∷ []) 0x2C61 0x2800;
      said =
          says (0x8000 ∷ 8 ∷ 0x480 ∷ 0x2C62 ∷ 0x8000 ∷ 7 ∷ 0x482 ∷ 0x2C61 ∷ []) none
          ((0x2800 ∷ 12 ∷ 13 ∷ []) ∷ (0x2800 ∷ 11 ∷ []) ∷ []) (3 ∷ 3 ∷ []) 0x2C61 0x2800;
    }
    -- meeting: the word sent is not the one that was sent before
    ∷ record {
      asks = false;
      old = order (5 ∷ []) (0 ∷ 0 ∷ []) ((0x2800 ∷ []) ∷ (0x2800 ∷ 5 ∷ []) ∷ []) (3 ∷ 3 ∷ []) 0x2C81 0x2800;
      new = order (5 ∷ []) (0 ∷ 0 ∷ []) ((0x2800 ∷ 0 ∷ []) ∷ (0x2800 ∷ []) ∷ []) (3 ∷ 3 ∷ []) 0x2861 0x2800;
      said =
          says (0x8000 ∷ 8 ∷ 0x480 ∷ 0x2C81 ∷ 0x8000 ∷ 7 ∷ 0x480 ∷ 0x2861 ∷ []) none
          ((0x2800 ∷ 5 ∷ []) ∷ (0x2800 ∷ []) ∷ []) (3 ∷ 3 ∷ []) 0x2861 0x2800;
    }
    -- later
    ∷ record {
      asks = false;
      old =
          order (0x483 ∷ []) (0 ∷ 0 ∷ 0 ∷ [])
          ((0x2800 ∷ 11 ∷ []) ∷ (0x2800 ∷ 0 ∷ []) ∷ (0x2800 ∷ 12 ∷ 13 ∷ []) ∷ []) (3 ∷ 3 ∷ 3 ∷ []) 0x2C62 0x2800;
      new =
          order (0x483 ∷ []) (0 ∷ 0 ∷ 0 ∷ [])
          ((0x2800 ∷ 0 ∷ []) ∷ (0x2800 ∷ 11 ∷ 12 ∷ []) ∷ (0x2800 ∷ 13 ∷ []) ∷ []) (3 ∷ 3 ∷ 3 ∷ []) 0x2C61 0x2800;
      said =
          says (0x8000 ∷ 8 ∷ 0x400 ∷ 0x2C81 ∷ 0x8000 ∷ 9 ∷ 0x480 ∷ 0x2C62 ∷ []) none
          ((0x2800 ∷ 0 ∷ []) ∷ (0x2800 ∷ 12 ∷ 13 ∷ []) ∷ (0x2800 ∷ 11 ∷ []) ∷ []) (3 ∷ 3 ∷ 3 ∷ []) 0x2C61 0x2800;
    }
    -- unsound: 9
    ∷ record {
      asks = false;
      old = order (4 ∷ 5 ∷ 0 ∷ []) (0 ∷ 9 ∷ []) ((0x2800 ∷ []) ∷ [] ∷ []) (3 ∷ 0 ∷ []) 0x2861 0x2800;
      new = order (4 ∷ 5 ∷ 0 ∷ []) (9 ∷ 0 ∷ []) ([] ∷ (0x2800 ∷ []) ∷ []) (0 ∷ 3 ∷ []) 0x2861 0x2800;
      said = says (none ++ (0x8000 ∷ 7 ∷ 0x400 ∷ 0x2861 ∷ [])) none ([] ∷ (0x2800 ∷ []) ∷ []) (0 ∷ 3 ∷ []) 0x2861 0x2800;
    }
    -- narrow: 2
    ∷ record {
      asks = false;
      old = order (0 ∷ []) (2 ∷ 2 ∷ []) ([] ∷ [] ∷ []) (0 ∷ 0 ∷ []) 0 0;
      new = order (0 ∷ []) (2 ∷ 2 ∷ []) ([] ∷ [] ∷ []) (0 ∷ 0 ∷ []) 0 0;
      said = says (none ++ none) none ([] ∷ [] ∷ []) (0 ∷ 0 ∷ []) 0x2861 0;
    }
    -- mode_command: 7
    ∷ record {
      asks = false;
      old = order (4 ∷ []) (0 ∷ 7 ∷ []) ((0x2800 ∷ []) ∷ [] ∷ []) (3 ∷ 0 ∷ []) 0x2861 0x2800;
      new = order (4 ∷ []) (7 ∷ 0 ∷ []) ([] ∷ (0x2800 ∷ []) ∷ []) (0 ∷ 3 ∷ []) 0x2861 0x2800;
      said = says (none ++ (0x8000 ∷ 7 ∷ 0x400 ∷ 0x2861 ∷ [])) none ([] ∷ (0x2800 ∷ []) ∷ []) (0 ∷ 3 ∷ []) 0x2861 0x2800;
    }
    -- elsewhere: 6
    ∷ record {
      asks = false;
      old = order (4 ∷ []) (0 ∷ 6 ∷ []) ((0x2800 ∷ []) ∷ [] ∷ []) (3 ∷ 0 ∷ []) 0x2861 0x2800;
      new = order (4 ∷ []) (6 ∷ 0 ∷ []) ([] ∷ (0x2800 ∷ []) ∷ []) (0 ∷ 3 ∷ []) 0x2861 0x2800;
      said = says (none ++ (0x8000 ∷ 7 ∷ 0x400 ∷ 0x2861 ∷ [])) none ([] ∷ (0x2800 ∷ []) ∷ []) (0 ∷ 3 ∷ []) 0x2861 0x2800;
    }
    -- broken: 5
    ∷ record {
      asks = false;
      old = order (4 ∷ []) (0 ∷ 5 ∷ []) ((0x2800 ∷ []) ∷ [] ∷ []) (3 ∷ 0 ∷ []) 0x2861 0x2800;
      new = order (4 ∷ []) (5 ∷ 0 ∷ []) ([] ∷ (0x2800 ∷ []) ∷ []) (0 ∷ 3 ∷ []) 0x2861 0x2800;
      said = says (none ++ (0x8000 ∷ 7 ∷ 0x400 ∷ 0x2861 ∷ [])) none ([] ∷ (0x2800 ∷ []) ∷ []) (0 ∷ 3 ∷ []) 0x2861 0x2800;
    }
    ∷ []

pub computed : map seen cases ≡ expected
unfolding bits_of word_count is_mode_subaddress stack_size_listed settings_refused is_own is_broadcast is_not_ours has_broadcast_cells first_of transfer_fails breaks_transfer lasts_zero keeps_layout expected_words faults_of faults_for any_fault ram_refused stack_pointer_place lookup_table busy_place is_busy_at illegal_place is_illegal_at cell_number kind_of apply_writes row run_from aligned place_of rolls_over meets meets_fixed control_part pick_scheme lookup_at cell_from cell_at window_of double_fits sound_cell stack_pointer stack_window stack_sound cell_for is_illegal is_busy target_of withheld words_stored words_sent act_with act_of may_move stride moves motion_with motion_of block_status status_bits status_word signals_of deed_with deed_of entry_of interrupt_word plan_with plan_of pointer_list descriptor_of entry_list deed_list stack_list list_of sent_behind reply_writes reply_words cell_unsound refusal_for refused_with accepted_with answer_for carried_out state_for answer_of step kind_numbered program_settings is_read cell_numbered is_unsound or_else lowest lowest_unsound area_refusal check_area run effect_of effects swap_at exchange_all well_formed all_well_formed may_exchange allowed_at allowed_all without_wrap without_stack_rollover remembered_last entries_on last_of stack_word kept_after stack_after remembered_after starts_well takes_well asked plain_ram start_of order_of said_of seen
computed = refl
