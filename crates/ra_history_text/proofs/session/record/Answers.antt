use Rattle.ra_history_text.proofs.Lines.{command_replied, command_taken}
use Rattle.ra_history_text.proofs.session.record.Goals as goal

pub returns-clause-taken : goal.returns-clause-taken
returns-clause-taken c =
    command_taken c.args.history.now c.take.new.self c.args.line.now c.args.command c.in_ok-answer.answer
    c.requires.read c.in_ok-answer.ensures.taken

pub returns-clause-replied : goal.returns-clause-replied
returns-clause-replied c =
    command_replied c.args.history.now c.take.new.self c.args.line.now c.args.command c.in_ok-answer.answer
    c.args.out.now.items c.put_reply.new.out.items c.in_ok-answer.ensures.taken c.in_ok-put_reply.ensures.put
