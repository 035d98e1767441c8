use Rattle.std.proofs.Common.{◌≡◌, Some, None, rules}
use Rattle.ra_history_lines.specs.Reading.{head_read}
use Rattle.ra_history_text.proofs.Lines.{first_taken, first_stops}
use Rattle.ra_history_text.proofs.session.after_first.Goals as goal

pub returns-in-Some-clause-taken : goal.returns-in-Some-clause-taken
returns-in-Some-clause-taken c =
    let read : head_read c.args.line.now ≡ Some (c.in-Some.format, c.in-Some.kind) = search rules in
    first_taken c.args.line.now (c.in-Some.format, c.in-Some.kind) read

pub returns-in-None-clause-fault : goal.returns-in-None-clause-fault
returns-in-None-clause-fault c =
    let read : head_read c.args.line.now ≡ None = search rules in
    first_stops c.args.line.now read
