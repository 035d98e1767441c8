use Rattle.std.proofs.Common.{rules, sym, subst}
use Rattle.ra_ticket.specs.Steps.{IsPart}
use Rattle.ra_ticket.specs.Views.{numbers_of, others_only}
use Rattle.ra_ticket.proofs.Journals.{of_journal}
use Rattle.ra_ticket.proofs.Cuts.{splits, others_part}
use Rattle.ra_ticket.proofs.open.split_first.Goals as goal

pub split_seat-requires : goal.split_seat-requires
split_seat-requires g c = (search rules, search rules, splits (of_journal g.M.Journal) _ _ _ c.requires.idle)

pub returns-clause-rest : goal.returns-clause-rest
returns-clause-rest g c =
    subst (λ m. IsPart c.args.rest.now.me.0 m.0 (others_only (numbers_of c.args.rest.now.me.0)))
    (sym c.split_seat.ensures.2) (others_part _ c.requires.idle)
