use Rattle.std.proofs.Common.{rules, ◌+◌, refl, arith}
use mathlib.Core.Option.{none}
use Rattle.atomic_table.specs.Table.{step}
use Rattle.ra_ticket.proofs.Journals.{of_journal}
use Rattle.ra_ticket.proofs.Moves.{draws}
use Rattle.ra_ticket.proofs.draw.try_draw.Goals as goal

pub compare_exchange-requires : goal.compare_exchange-requires
compare_exchange-requires g c = (
  search rules,
  search rules,
  draws (of_journal g.M.Journal) _ _ _ _ _ c.args.ticket
      (step c.args.board.now.table_id.slots 0 c.args.ticket (c.args.ticket + 1) none) refl refl
      (omega arith) c.requires.idle,
)
