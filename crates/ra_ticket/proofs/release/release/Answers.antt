use Rattle.std.proofs.Common.{rules, ◌+◌, ◌%◌, ◌^◌, subst, sym}
use mathlib.Core.Option.{none}
use Rattle.atomic_table.specs.Table.{step, Allows}
use Rattle.ra_ticket.specs.Rule.{TurnsKept}
use Rattle.ra_ticket.specs.Steps.{released}
use Rattle.ra_ticket.proofs.Journals.{of_journal}
use Rattle.ra_ticket.proofs.Moves.{releases}
use Rattle.ra_ticket.proofs.release.release.Goals as goal

pub fetch_add-requires : goal.fetch_add-requires
fetch_add-requires g c = let it = c.args.seat.now in let h = c.requires.holds in
    let st = step c.args.board.now.table_id.slots 1 1 0 none in
    let opened = g.M.Journal.setup c.args.board.now.key.opening.value in (
      search rules,
      search rules,
      subst (λ cs. Allows (TurnsKept (of_journal g.M.Journal) opened) c.args.board.now.table_id.slots it.id
          (it.me.0, cs) 1 (λ n. (n + 1) % 2 ^ 64) (released st (it.me.0, cs))) (sym h.2.1)
          (releases (of_journal g.M.Journal) opened _ _ _ h.2.0 _ st h.1 h.2.2),
    )
