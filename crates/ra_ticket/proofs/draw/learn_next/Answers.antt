use Rattle.std.proofs.Common.{rules}
use mathlib.Core.Option.{none}
use Rattle.atomic_table.specs.Table.{step}
use Rattle.ra_ticket.proofs.Journals.{of_journal}
use Rattle.ra_ticket.proofs.Moves.{learns}
use Rattle.ra_ticket.proofs.draw.learn_next.Goals as goal

pub load-requires : goal.load-requires
load-requires g c =
    (search rules, search rules, learns (of_journal g.M.Journal) _ _ _ _ _ (step 1 0 0 0 none) c.requires.idle)
