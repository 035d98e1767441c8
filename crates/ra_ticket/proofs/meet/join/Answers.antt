use Rattle.std.proofs.Common.{rules}
use Rattle.ra_ticket.proofs.Journals.{of_journal}
use Rattle.ra_ticket.proofs.Meetings.{joins}
use Rattle.ra_ticket.proofs.meet.join.Goals as goal

pub join_seat-requires : goal.join_seat-requires
join_seat-requires g c = (
  search rules,
  search rules,
  search rules,
  search rules,
  joins
      (of_journal g.M.Journal) _ _ _ _ _ c.requires.idle.0 c.requires.idle.1,
)
