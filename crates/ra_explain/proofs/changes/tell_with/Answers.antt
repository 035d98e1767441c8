use Rattle.std.proofs.Common.{◌∙◌}
use Rattle.ra_explain.specs.Changes.{kept_from, commands_with}
use Rattle.ra_explain.proofs.Retold.{told_last}
use Rattle.ra_explain.proofs.changes.tell_with.Goals as goal

-- the trial received the kept and the added commands
pub returns : goal.returns
returns c =
    let kept = kept_from c.args.change c.args.replica 0 c.args.before.now in
    let all = commands_with c.args.change c.args.replica c.args.before.now in
    let told = c.in_ok-tell_added.ensures.told kept c.in_ok-tell_kept.ensures.told in
    c.is_ok.ensures ∙ told_last c.args.trial.now.setup c.tell_added.new.trial.setup all c.args.command.now
    c.in_ok-copy.field-0 c.in_ok-reply.reply (c.tell_added.ensures.same_setup ∙ c.tell_kept.ensures.same_setup)
    c.in_ok-copy.ensures (c.in_ok-reply.ensures.told all told).0
