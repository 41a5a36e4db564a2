-- P1 to P12, and three on the 64K card: one table, one statement.
use mathlib.Core.Path.{◌≡◌, refl}
use mathlib.Core.List.{map}
use Rattle.words.specs.Bits.{bits_of}
use Rattle.words.specs.Command.{word_count, is_mode_subaddress}
use Rattle.words.specs.Settings.{stack_size_listed, settings_refused, is_own, is_broadcast, is_not_ours}
use Rattle.words.specs.Fill.{fill_from}
use Rattle.words.specs.Refusal.{first_of}
use Rattle.records.specs.Transfer.{transfer_fails, breaks_transfer}
use Rattle.records.specs.Value.{lasts_zero, keeps_layout}
use Rattle.faults.specs.Fault.{expected_words, faults_of, faults_for, any_fault}
use Rattle.memory.specs.Map.{ram_refused, stack_pointer_place, lookup_table, busy_place, is_busy_at, illegal_place, is_illegal_at}
use Rattle.memory.specs.Kind.{cell_number, kind_of}
use Rattle.memory.specs.Rows.{row}
use Rattle.memory.specs.Writes.{apply_writes}
use Rattle.windows.specs.Window.{run_from, aligned, place_of, rolls_over, meets, meets_fixed}
use Rattle.cells.specs.Cell.{control_part, pick_scheme, lookup_at, cell_from, cell_at, window_of, double_fits, sound_cell}
use Rattle.cells.specs.Stack.{stack_pointer, stack_window, stack_sound}
use Rattle.lookup.specs.Target.{cell_for, is_illegal, is_busy, target_of}
use Rattle.plan.specs.Act.{withheld, words_stored, words_sent, act_with, act_of}
use Rattle.plan.specs.Motion.{may_move, stride, moves, motion_with, motion_of}
use Rattle.plan.specs.Report.{block_status, status_bits, status_word}
use Rattle.plan.specs.Deed.{signals_of, deed_with, deed_of}
use Rattle.plan.specs.Entry.{entry_of}
use Rattle.plan.specs.Plan.{interrupt_word, plan_with, plan_of}
use Rattle.writes.specs.Writes.{pointer_list, descriptor_of, entry_list, deed_list, stack_list, list_of}
use Rattle.writes.specs.Reply.{sent_behind, reply_writes, reply_words}
use Rattle.message.specs.Tests.{cell_unsound, refusal_for}
use Rattle.message.specs.Answer.{refused_with, accepted_with, answer_for}
use Rattle.message.specs.Message.{carried_out, state_for, answer_of, step}
use Rattle.message.specs.Edges.{run_case, cases, expected}

pub edges : map run_case cases ≡ expected
unfolding bits_of word_count is_mode_subaddress stack_size_listed settings_refused is_own is_broadcast is_not_ours fill_from first_of transfer_fails breaks_transfer lasts_zero keeps_layout expected_words faults_of faults_for any_fault ram_refused stack_pointer_place lookup_table busy_place is_busy_at illegal_place is_illegal_at cell_number kind_of apply_writes row run_from aligned place_of rolls_over meets meets_fixed control_part pick_scheme lookup_at cell_from cell_at window_of double_fits sound_cell stack_pointer stack_window stack_sound cell_for is_illegal is_busy target_of withheld words_stored words_sent act_with act_of may_move stride moves motion_with motion_of block_status status_bits status_word signals_of deed_with deed_of entry_of interrupt_word plan_with plan_of pointer_list descriptor_of entry_list deed_list stack_list list_of sent_behind reply_writes reply_words cell_unsound refusal_for refused_with accepted_with answer_for carried_out state_for answer_of step run_case cases expected
edges = refl
