use Rattle.ra_labels.proofs.Results.{on_err}
use Rattle.ra_history_lines.proofs.LedLines.{led_is_read, led_may_have_list}
use Rattle.ra_history_lines.proofs.command.line_command.Goals as goal

pub returns-in-Some-clause-read : goal.returns-in-Some-clause-read
returns-in-Some-clause-read c =
    led_is_read c.args.format c.args.kind c.args.names.now c.args.line.now c.in-Some.replica c.in-Some.bytes.now
    c.replica_line.result c.in-Some.ensures c.replica_line.ensures.read

pub returns-in-Some-clause-memory : goal.returns-in-Some-clause-memory
returns-in-Some-clause-memory c =
    on_err c.replica_line.result c.replica_line.ensures.memory (λ may.
    led_may_have_list c.args.kind c.args.names.now c.args.line.now c.in-Some.replica c.in-Some.bytes.now
    c.in-Some.ensures may)
