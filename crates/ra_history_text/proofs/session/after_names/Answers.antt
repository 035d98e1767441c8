use Rattle.std.proofs.Common.{Err, ap}
use Rattle.ra_history_text.proofs.Lines.{history_begins, names_fault}
use Rattle.ra_history_text.proofs.session.after_names.Goals as goal

pub returns-in-Err-clause-fault : goal.returns-in-Err-clause-fault
returns-in-Err-clause-fault c =
    names_fault c.args.format c.args.kind c.args.line.now c.in-Err.fault c.at_line.result c.at_line.ensures
    (λ is. c.in-Err.ensures.syntax (ap Err is))

pub returns-clause-taken : goal.returns-clause-taken
returns-clause-taken c =
    history_begins c.args.format c.args.kind c.args.line.now c.in-Ok.names c.in_ok-history.history
    c.in-Ok.ensures.found c.in_ok-history.ensures.format c.in_ok-history.ensures.kind c.in_ok-history.ensures.first
    c.in_ok-history.ensures.joined c.in_ok-history.ensures.commands
