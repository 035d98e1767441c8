use Rattle.std.proofs.Common.{rules, ◌+◌, refl, sym, arith}
use mathlib.Core.Option.{none}
use Rattle.atomic_table.specs.Table.{step}
use Rattle.ra_ticket.proofs.Journals.{of_journal}
use Rattle.ra_ticket.specs.declared.board.Stage.TheVariants.{Idle}
use Rattle.ra_ticket.proofs.Moves.{draws_served}
use Rattle.ra_ticket.proofs.OwnPasses.{own_alone}
use Rattle.ra_ticket.proofs.at_once.try_draw_served.Goals as goal

pub compare_exchange-requires : goal.compare_exchange-requires
compare_exchange-requires g c = (
  search rules,
  search rules,
  draws_served (of_journal g.M.Journal) _ _ _ _ _ c.args.ticket
      (step c.args.board.now.table_id.slots 0 c.args.ticket (c.args.ticket + 1) none) refl refl
      (omega arith) c.requires.idle.0 c.requires.served,
)

pub returns-clause-own : goal.returns-clause-own
returns-clause-own g c =
    λ n of. sym
    (own_alone c.args.seat.now.me.0 _ n Idle c.requires.idle.0 of
    (c.compare_exchange.ensures.2 c.requires.idle.0 c.requires.served).1.1)
