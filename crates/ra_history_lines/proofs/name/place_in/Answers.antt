use Rattle.std.proofs.Common.{◌∙◌}
use Rattle.ra_history_lines.proofs.NameLists.{place_found, place_missing}
use Rattle.ra_history_lines.proofs.name.place_in.Goals as goal

pub returns-in-Some-clause-place : goal.returns-in-Some-clause-place
returns-in-Some-clause-place c = place_found c.args.set.now.keys c.args.name.now c.in-Some.place c.in-Some.ensures.index

pub returns-in-None-clause-place : goal.returns-in-None-clause-place
returns-in-None-clause-place c = c.len.ensures.len
    ∙ place_missing c.args.set.now.keys c.args.name.now c.in-None.ensures.index
