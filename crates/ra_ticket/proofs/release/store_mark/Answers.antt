use Rattle.std.proofs.Common.{rules, subst, sym}
use mathlib.Core.Option.{none}
use Rattle.atomic_table.specs.Table.{step, Allows}
use Rattle.ra_ticket.specs.Rule.{TurnsKept}
use Rattle.ra_ticket.specs.Steps.{published}
use Rattle.ra_ticket.proofs.Journals.{of_journal}
use Rattle.ra_ticket.proofs.Moves.{publishes}
use Rattle.ra_ticket.proofs.release.store_mark.Goals as goal

pub store-requires : goal.store-requires
store-requires g c = let it = c.args.seat.now in let h = c.requires.ahead in let mark = c.args.mark in
    let st = step c.args.board.now.table_id.slots 2 mark 0 none in
    let opened = g.M.Journal.setup c.args.board.now.key.opening.value in (
      search rules,
      search rules,
      subst (λ cs. Allows (TurnsKept (of_journal g.M.Journal) opened) c.args.board.now.table_id.slots it.id
          (it.me.0, cs) 2 (λ _. mark) (λ _. published (of_journal g.M.Journal) st (it.me.0, cs) mark)) (sym h.2.1)
          (publishes (of_journal g.M.Journal) opened _ _ _ h.2.0 _ mark st h.1 h.2.2 h.2.3),
    )
