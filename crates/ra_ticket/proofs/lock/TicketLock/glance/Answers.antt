use Rattle.std.proofs.Common.{sym}
use Rattle.ra_ticket.proofs.Journals.{of_journal}
use Rattle.ra_ticket.proofs.Marks.{read_off}
use Rattle.ra_ticket.proofs.OwnPasses.{own_alone}
use Rattle.ra_ticket.proofs.lock.TicketLock.glance.Goals as goal

pub returns-clause-mine : goal.returns-clause-mine
returns-clause-mine g c =
    sym (own_alone c.args.pass.now.seat.me.0 _ c.args.pass.now.number _ c.args.pass.now.idle c.args.pass.now.numbered
    c.look_at_mark-mark.ensures.own)

pub returns-clause-calls : goal.returns-clause-calls
returns-clause-calls g c = (read_off (of_journal g.M.Journal) _ _ _ _ c.look_at_mark-mark.ensures.idle
    c.look_at_mark-mark.ensures.marked c.read-calls.ensures.packed).0

pub returns-clause-fault : goal.returns-clause-fault
returns-clause-fault g c = (read_off (of_journal g.M.Journal) _ _ _ _ c.look_at_mark-mark.ensures.idle
    c.look_at_mark-mark.ensures.marked c.read-calls.ensures.packed).1
