use Rattle.std.proofs.Common.{◌∙◌}
use Rattle.ra_explain.specs.OneList.{list_command, list_commands}
use Rattle.ra_explain.proofs.Retold.{told_last}
use Rattle.ra_explain.proofs.one_list.tell_all.Goals as goal

-- the trial received the accepted commands
pub returns : goal.returns
returns c =
    let all = list_commands c.args.before.now in
    c.is_ok.ensures ∙ told_last c.args.trial.now.setup c.tell_accepted.new.trial.setup all
    (list_command c.args.command.now) c.in_ok-list_command.field-0 c.in_ok-reply.reply
    c.tell_accepted.ensures.same_setup c.in_ok-list_command.ensures
    (c.in_ok-reply.ensures.told all c.in_ok-tell_accepted.ensures.told).0
