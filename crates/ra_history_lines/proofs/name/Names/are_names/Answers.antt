use Rattle.ra_history_lines.proofs.NameLists.{kept_names}
use Rattle.ra_history_lines.proofs.name.Names.are_names.Goals as goal

pub returns : goal.returns
returns c = kept_names c.self.inside.set.keys c.args.self.now c.self.invariant c.self.view_is
