use Rattle.std.proofs.Common.{rules, subst, sym}
use Rattle.ra_ticket.specs.Steps.{HoldsPublished}
use Rattle.ra_ticket.proofs.Journals.{of_journal}
use Rattle.ra_ticket.proofs.Logs.{is_ahead}
use Rattle.ra_ticket.proofs.serve.serve.Goals as goal
use Rattle.ra_ticket.proofs.serve.serve.Goals.{in-Ok, in-Err}

pub publish-requires-clause-ahead : goal.publish-requires-clause-ahead
publish-requires-clause-ahead g c κs within = (
  c.args.ticket,
  search rules,
  search rules,
  is_ahead (of_journal g.M.Journal) c.args.seat.now.me.0 c.args.ticket c.args.number c.args.journal c.step.new.self
      c.args.command c.in-Ok.reply
      c.requires.entered (search rules) (search rules) (search rules) (search rules),
)

pub release-requires-clause-holds : goal.release-requires-clause-holds
release-requires-clause-holds g c κs within = elim c.match-step.branch [
  | in-Ok w ↦ subst (λ s. HoldsPublished (of_journal g.M.Journal) s) (sym w.seat-is) (search rules)
  | in-Err w ↦ subst (λ s. HoldsPublished (of_journal g.M.Journal) s) (sym w.seat-is) (
    c.args.ticket,
    search rules,
    (c.step.new.self, search rules, record { setup = search rules; log = search rules }),
  )
]
