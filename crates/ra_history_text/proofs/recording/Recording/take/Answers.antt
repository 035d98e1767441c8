use Rattle.ra_history_text.proofs.NewNames.{may_name}
use Rattle.ra_history_text.proofs.recording.Recording.take.Goals as goal

pub add_name-requires-clause-new : goal.add_name-requires-clause-new
add_name-requires-clause-new c =
    let named = may_name _ _ c.args.line.now _ _ _ c.has_few_names.ensures c.requires c.in_ok-reply.ensures.answered
    c.in-Joined.is in
    rw c.new_name.ensures named.new

pub add_name-requires-clause-lacks : goal.add_name-requires-clause-lacks
add_name-requires-clause-lacks c =
    (may_name _ _ c.args.line.now _ _ _ c.has_few_names.ensures c.requires c.in_ok-reply.ensures.answered
    c.in-Joined.is).lacks
