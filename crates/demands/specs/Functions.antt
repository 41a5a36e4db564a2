-- The entry points: every function that a demand speaks of, with its contract as the checker reads it.
use Rattle.message.proofs.serve
use Rattle.message.proofs.heard
use Rattle.message.proofs.long
use Rattle.layout.proofs.reader
use Rattle.layout.proofs.writer
use Rattle.layout.proofs.round_trip
use Rattle.layout_long.proofs.reader as long-reader
use Rattle.layout_long.proofs.writer as long-writer
use Rattle.layout_long.proofs.round_trip as long-trips
use Rattle.layout_long.proofs.conversion
use Rattle.area.proofs.area
use Rattle.label.proofs.one
use Rattle.label.proofs.whole
use Rattle.soundness.proofs.cell as described-cell
use Rattle.soundness.proofs.stack as described-stack
use Rattle.trace.proofs.walk
use Rattle.trace_view.proofs.view
use Rattle.who.proofs.tests
use Rattle.who_replay.proofs.question
use Rattle.who_tables.proofs.tests as table-tests
use Rattle.who_replay.proofs.fill
use Rattle.who_tables.proofs.table
use Rattle.control.proofs.start
use Rattle.c_message_bytes.proofs.from_bytes
use Rattle.c_message_values.proofs.from_value
use Rattle.c_message_long.proofs.from_long
use Rattle.c_questions.proofs.calls
use Rattle.c_long.proofs.calls as long-calls
use Rattle.c_questions.proofs.descriptions
use Rattle.c_who.proofs.origins
use Rattle.c_control.proofs.runs
use Rattle.demands.specs.Entry.{Function, function}

-- ---- one message, from bytes, from a value or from a long record; and for who needs the plan

abbrev pub message_from_bytes : Function
message_from_bytes =
    function 3 serve.message_from_bytes.Kinds.ps serve.message_from_bytes.Kinds.r serve.message_from_bytes.Reads.Pre
    serve.message_from_bytes.Reads.Post serve.message_from_bytes.Statement.statement

abbrev pub message_from_value : Function
message_from_value =
    function 2 serve.message_from_value.Kinds.ps serve.message_from_value.Kinds.r serve.message_from_value.Reads.Pre
    serve.message_from_value.Reads.Post serve.message_from_value.Statement.statement

abbrev pub message_from_long : Function
message_from_long =
    function 3 long.message_from_long.Kinds.ps long.message_from_long.Kinds.r long.message_from_long.Reads.Pre
    long.message_from_long.Reads.Post long.message_from_long.Statement.statement

abbrev pub perform_bytes : Function
perform_bytes =
    function 3 heard.perform_bytes.Kinds.ps heard.perform_bytes.Kinds.r heard.perform_bytes.Reads.Pre
    heard.perform_bytes.Reads.Post heard.perform_bytes.Statement.statement

abbrev pub perform_value_call : Function
perform_value_call =
    function 2 heard.perform_value.Kinds.ps heard.perform_value.Kinds.r heard.perform_value.Reads.Pre
    heard.perform_value.Reads.Post heard.perform_value.Statement.statement

abbrev pub perform_long_call : Function
perform_long_call =
    function 3 long.perform_long.Kinds.ps long.perform_long.Kinds.r long.perform_long.Reads.Pre
    long.perform_long.Reads.Post long.perform_long.Statement.statement

-- ---- records: the reader, the writer, one and then the other

abbrev pub read : Function
read =
    function 1 reader.read.Kinds.ps reader.read.Kinds.r reader.read.Reads.Pre reader.read.Reads.Post
    reader.read.Statement.statement

abbrev pub write : Function
write =
    function 0 writer.write.Kinds.ps writer.write.Kinds.r writer.write.Reads.Pre writer.write.Reads.Post
    writer.write.Statement.statement

abbrev pub read_written : Function
read_written =
    function 0 round_trip.read_written.Kinds.ps round_trip.read_written.Kinds.r round_trip.read_written.Reads.Pre
    round_trip.read_written.Reads.Post round_trip.read_written.Statement.statement

abbrev pub write_read : Function
write_read =
    function 1 round_trip.write_read.Kinds.ps round_trip.write_read.Kinds.r round_trip.write_read.Reads.Pre
    round_trip.write_read.Reads.Post round_trip.write_read.Statement.statement

-- ---- the same of long records, and the way to them and back

abbrev pub read_old_call : Function
read_old_call =
    function 1 long-reader.read_old.Kinds.ps long-reader.read_old.Kinds.r long-reader.read_old.Reads.Pre
    long-reader.read_old.Reads.Post long-reader.read_old.Statement.statement

abbrev pub read_long_call : Function
read_long_call =
    function 1 long-reader.read_long.Kinds.ps long-reader.read_long.Kinds.r long-reader.read_long.Reads.Pre
    long-reader.read_long.Reads.Post long-reader.read_long.Statement.statement

abbrev pub write_long_call : Function
write_long_call =
    function 0 long-writer.write_long.Kinds.ps long-writer.write_long.Kinds.r long-writer.write_long.Reads.Pre
    long-writer.write_long.Reads.Post long-writer.write_long.Statement.statement

abbrev pub read_written_long : Function
read_written_long =
    function 0 long-trips.read_written_long.Kinds.ps long-trips.read_written_long.Kinds.r
    long-trips.read_written_long.Reads.Pre long-trips.read_written_long.Reads.Post
    long-trips.read_written_long.Statement.statement

abbrev pub write_read_long : Function
write_read_long =
    function 1 long-trips.write_read_long.Kinds.ps long-trips.write_read_long.Kinds.r
    long-trips.write_read_long.Reads.Pre long-trips.write_read_long.Reads.Post
    long-trips.write_read_long.Statement.statement

abbrev pub longer : Function
longer =
    function 1 conversion.longer.Kinds.ps conversion.longer.Kinds.r conversion.longer.Reads.Pre
    conversion.longer.Reads.Post conversion.longer.Statement.statement

abbrev pub shorter : Function
shorter =
    function 1 conversion.shorter.Kinds.ps conversion.shorter.Kinds.r conversion.shorter.Reads.Pre
    conversion.shorter.Reads.Post conversion.shorter.Statement.statement

-- ---- the area: the check, the labels, what a cell and the stack are like

abbrev pub check_area_call : Function
check_area_call =
    function 1 area.check_area.Kinds.ps area.check_area.Kinds.r area.check_area.Reads.Pre area.check_area.Reads.Post
    area.check_area.Statement.statement

abbrev pub ground_refusal_call : Function
ground_refusal_call =
    function 1 area.ground_refusal.Kinds.ps area.ground_refusal.Kinds.r area.ground_refusal.Reads.Pre
    area.ground_refusal.Reads.Post area.ground_refusal.Statement.statement

abbrev pub label_cell : Function
label_cell =
    function 1 one.label_cell.Kinds.ps one.label_cell.Kinds.r one.label_cell.Reads.Pre one.label_cell.Reads.Post
    one.label_cell.Statement.statement

abbrev pub find_sharers : Function
find_sharers =
    function 2 one.find_sharers.Kinds.ps one.find_sharers.Kinds.r one.find_sharers.Reads.Pre
    one.find_sharers.Reads.Post one.find_sharers.Statement.statement

abbrev pub label_area : Function
label_area =
    function 2 whole.label_area.Kinds.ps whole.label_area.Kinds.r whole.label_area.Reads.Pre
    whole.label_area.Reads.Post whole.label_area.Statement.statement

abbrev pub describe_cell : Function
describe_cell =
    function 1 described-cell.describe_cell.Kinds.ps described-cell.describe_cell.Kinds.r
    described-cell.describe_cell.Reads.Pre described-cell.describe_cell.Reads.Post
    described-cell.describe_cell.Statement.statement

abbrev pub describe_stack : Function
describe_stack =
    function 1 described-stack.describe_stack.Kinds.ps described-stack.describe_stack.Kinds.r
    described-stack.describe_stack.Reads.Pre described-stack.describe_stack.Reads.Post
    described-stack.describe_stack.Statement.statement

-- ---- a trace: a walk, a record for a view

abbrev pub walk_trace : Function
walk_trace =
    function 4 walk.walk.Kinds.ps walk.walk.Kinds.r walk.walk.Reads.Pre walk.walk.Reads.Post
    walk.walk.Statement.statement

abbrev pub take_at : Function
take_at =
    function 1 view.take_at.Kinds.ps view.take_at.Kinds.r view.take_at.Reads.Pre view.take_at.Reads.Post
    view.take_at.Statement.statement

-- ---- who put a word there: of one address, and of every address

abbrev pub who_refusal_call : Function
who_refusal_call =
    function 0 tests.who_refusal.Kinds.ps tests.who_refusal.Kinds.r tests.who_refusal.Reads.Pre
    tests.who_refusal.Reads.Post tests.who_refusal.Statement.statement

abbrev pub ask : Function
ask =
    function 2 question.ask.Kinds.ps question.ask.Kinds.r question.ask.Reads.Pre question.ask.Reads.Post
    question.ask.Statement.statement

abbrev pub go_on : Function
go_on =
    function 2 question.go_on.Kinds.ps question.go_on.Kinds.r question.go_on.Reads.Pre question.go_on.Reads.Post
    question.go_on.Statement.statement

abbrev pub fill_refusal_call : Function
fill_refusal_call =
    function 0 table-tests.fill_refusal.Kinds.ps table-tests.fill_refusal.Kinds.r table-tests.fill_refusal.Reads.Pre
    table-tests.fill_refusal.Reads.Post table-tests.fill_refusal.Statement.statement

abbrev pub fill_tables : Function
fill_tables =
    function 4 fill.fill.Kinds.ps fill.fill.Kinds.r fill.fill.Reads.Pre fill.fill.Reads.Post
    fill.fill.Statement.statement

abbrev pub entry_at_call : Function
entry_at_call =
    function 2 table.entry_at.Kinds.ps table.entry_at.Kinds.r table.entry_at.Reads.Pre table.entry_at.Reads.Post
    table.entry_at.Statement.statement

-- ---- the bus controller

abbrev pub run_from_call : Function
run_from_call =
    function 2 start.start_at.Kinds.ps start.start_at.Kinds.r start.start_at.Reads.Pre start.start_at.Reads.Post
    start.start_at.Statement.statement

abbrev pub run_on : Function
run_on =
    function 2 start.go_on.Kinds.ps start.go_on.Kinds.r start.go_on.Reads.Pre start.go_on.Reads.Post
    start.go_on.Statement.statement

-- ---- for callers in C and Rust

abbrev pub c_message : Function
c_message =
    function 6 from_bytes.solkverva_message.Kinds.ps from_bytes.solkverva_message.Kinds.r
    from_bytes.solkverva_message.Reads.Pre from_bytes.solkverva_message.Reads.Post
    from_bytes.solkverva_message.Statement.statement

abbrev pub c_message_value : Function
c_message_value =
    function 6 from_value.solkverva_message_value.Kinds.ps from_value.solkverva_message_value.Kinds.r
    from_value.solkverva_message_value.Reads.Pre from_value.solkverva_message_value.Reads.Post
    from_value.solkverva_message_value.Statement.statement

abbrev pub c_message_long : Function
c_message_long =
    function 6 from_long.solkverva_message_long.Kinds.ps from_long.solkverva_message_long.Kinds.r
    from_long.solkverva_message_long.Reads.Pre from_long.solkverva_message_long.Reads.Post
    from_long.solkverva_message_long.Statement.statement

abbrev pub c_read : Function
c_read =
    function 2 calls.solkverva_read.Kinds.ps calls.solkverva_read.Kinds.r calls.solkverva_read.Reads.Pre
    calls.solkverva_read.Reads.Post calls.solkverva_read.Statement.statement

abbrev pub c_write : Function
c_write =
    function 2 calls.solkverva_write.Kinds.ps calls.solkverva_write.Kinds.r calls.solkverva_write.Reads.Pre
    calls.solkverva_write.Reads.Post calls.solkverva_write.Statement.statement

abbrev pub c_read_long : Function
c_read_long =
    function 2 long-calls.solkverva_read_long.Kinds.ps long-calls.solkverva_read_long.Kinds.r
    long-calls.solkverva_read_long.Reads.Pre long-calls.solkverva_read_long.Reads.Post
    long-calls.solkverva_read_long.Statement.statement

abbrev pub c_write_long : Function
c_write_long =
    function 2 long-calls.solkverva_write_long.Kinds.ps long-calls.solkverva_write_long.Kinds.r
    long-calls.solkverva_write_long.Reads.Pre long-calls.solkverva_write_long.Reads.Post
    long-calls.solkverva_write_long.Statement.statement

abbrev pub c_longer : Function
c_longer =
    function 2 long-calls.solkverva_longer.Kinds.ps long-calls.solkverva_longer.Kinds.r
    long-calls.solkverva_longer.Reads.Pre long-calls.solkverva_longer.Reads.Post
    long-calls.solkverva_longer.Statement.statement

abbrev pub c_shorter : Function
c_shorter =
    function 2 long-calls.solkverva_shorter.Kinds.ps long-calls.solkverva_shorter.Kinds.r
    long-calls.solkverva_shorter.Reads.Pre long-calls.solkverva_shorter.Reads.Post
    long-calls.solkverva_shorter.Statement.statement

abbrev pub c_check_area : Function
c_check_area =
    function 2 calls.solkverva_check_area.Kinds.ps calls.solkverva_check_area.Kinds.r
    calls.solkverva_check_area.Reads.Pre calls.solkverva_check_area.Reads.Post
    calls.solkverva_check_area.Statement.statement

abbrev pub c_label_cell : Function
c_label_cell =
    function 3 calls.solkverva_label_cell.Kinds.ps calls.solkverva_label_cell.Kinds.r
    calls.solkverva_label_cell.Reads.Pre calls.solkverva_label_cell.Reads.Post
    calls.solkverva_label_cell.Statement.statement

abbrev pub c_label_area : Function
c_label_area =
    function 5 calls.solkverva_label_area.Kinds.ps calls.solkverva_label_area.Kinds.r
    calls.solkverva_label_area.Reads.Pre calls.solkverva_label_area.Reads.Post
    calls.solkverva_label_area.Statement.statement

abbrev pub c_describe_cell : Function
c_describe_cell =
    function 3 descriptions.solkverva_describe_cell.Kinds.ps descriptions.solkverva_describe_cell.Kinds.r
    descriptions.solkverva_describe_cell.Reads.Pre descriptions.solkverva_describe_cell.Reads.Post
    descriptions.solkverva_describe_cell.Statement.statement

abbrev pub c_describe_stack : Function
c_describe_stack =
    function 3 descriptions.solkverva_describe_stack.Kinds.ps descriptions.solkverva_describe_stack.Kinds.r
    descriptions.solkverva_describe_stack.Reads.Pre descriptions.solkverva_describe_stack.Reads.Post
    descriptions.solkverva_describe_stack.Statement.statement

abbrev pub c_who : Function
c_who =
    function 5 origins.solkverva_who.Kinds.ps origins.solkverva_who.Kinds.r origins.solkverva_who.Reads.Pre
    origins.solkverva_who.Reads.Post origins.solkverva_who.Statement.statement

abbrev pub c_who_fill : Function
c_who_fill =
    function 7 origins.solkverva_who_fill.Kinds.ps origins.solkverva_who_fill.Kinds.r
    origins.solkverva_who_fill.Reads.Pre origins.solkverva_who_fill.Reads.Post
    origins.solkverva_who_fill.Statement.statement

abbrev pub c_who_entry : Function
c_who_entry =
    function 4 origins.solkverva_who_entry.Kinds.ps origins.solkverva_who_entry.Kinds.r
    origins.solkverva_who_entry.Reads.Pre origins.solkverva_who_entry.Reads.Post
    origins.solkverva_who_entry.Statement.statement

abbrev pub c_control : Function
c_control =
    function 4 runs.solkverva_control.Kinds.ps runs.solkverva_control.Kinds.r runs.solkverva_control.Reads.Pre
    runs.solkverva_control.Reads.Post runs.solkverva_control.Statement.statement

abbrev pub c_control_on : Function
c_control_on =
    function 4 runs.solkverva_control_on.Kinds.ps runs.solkverva_control_on.Kinds.r runs.solkverva_control_on.Reads.Pre
    runs.solkverva_control_on.Reads.Post runs.solkverva_control_on.Statement.statement
