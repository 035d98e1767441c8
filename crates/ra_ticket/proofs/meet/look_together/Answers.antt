use Rattle.std.proofs.Common.{rules}
use mathlib.Core.Option.{none}
use Rattle.atomic_table.specs.Table.{step}
use Rattle.ra_ticket.proofs.Journals.{of_journal}
use Rattle.ra_ticket.proofs.Meetings.{looks_together}
use Rattle.ra_ticket.proofs.meet.look_together.Goals as goal

pub load-requires : goal.load-requires
load-requires g c = (
  search rules,
  search rules,
  looks_together (of_journal g.M.Journal) _ _ _ _ _ (step 1 2 0 0 none) c.requires.both,
)
