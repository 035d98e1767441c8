use Rattle.std.proofs.Common.{rules}
use mathlib.Core.Option.{none}
use Rattle.atomic_table.specs.Table.{step}
use Rattle.ra_ticket.proofs.Journals.{of_journal}
use Rattle.ra_ticket.proofs.Moves.{learns_serving}
use Rattle.ra_ticket.proofs.at_once.learn_serving.Goals as goal

pub load-requires : goal.load-requires
load-requires g c =
    (search rules, search rules, learns_serving (of_journal g.M.Journal) _ _ _ _ _ (step 1 1 0 0 none) c.requires.idle)
