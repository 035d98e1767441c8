use Rattle.ra_ticket.proofs.Journals.{of_journal}
use Rattle.ra_ticket.proofs.Closings.{is_left}
use Rattle.ra_ticket.proofs.close.close_table.Goals as goal

pub returns : goal.returns
returns g c = is_left (of_journal g.M.Journal) _ _ _ _ _ _ _ _ c.close_with-closed.ensures.values.2 c.word-next.ensures
    c.word-serving.ensures c.take-slot.ensures.value c.requires.idle
