use Rattle.std.proofs.Common.{rules, sym}
use mathlib.Core.Option.{none}
use Rattle.atomic_table.specs.Table.{step}
use Rattle.ra_ticket.proofs.Journals.{of_journal}
use Rattle.ra_ticket.specs.declared.board.Stage.TheVariants.{Waiting}
use Rattle.ra_ticket.proofs.Moves.{looks}
use Rattle.ra_ticket.proofs.OwnPasses.{own_alone}
use Rattle.ra_ticket.proofs.enter.look.Goals as goal

pub load-requires : goal.load-requires
load-requires g c = (
  search rules,
  search rules,
  looks (of_journal g.M.Journal) _ _ _ _ _ c.args.ticket
      (step 1 1 0 0 none) c.requires.waits.0,
)

pub returns-clause-own : goal.returns-clause-own
returns-clause-own g c =
    λ n of. sym
    (own_alone c.args.seat.now.me.0 _ n (Waiting c.args.ticket) c.requires.waits.0 of
    (c.load.ensures.2 c.args.ticket c.requires.waits.0).1.1)
