use Rattle.std.proofs.Common.{rules, ◌≡◌, [], ◌∷◌, Option, Some, List, sym, subst}
use Rattle.atomic_table.specs.Table.{opening}
use Rattle.ra_ticket.specs.Views.{starting}
use Rattle.ra_ticket.specs.Rule.{TurnsKept}
use Rattle.ra_ticket.proofs.Journals.{of_journal}
use Rattle.ra_ticket.proofs.Cuts.{starts}
use Rattle.ra_ticket.proofs.open.set_table.Goals as goal

pub new-requires : goal.new-requires
new-requires g c = let first = c.args.first in let mark = c.pack-mark.result in
    let opened = g.M.Journal.setup c.of.result.value in
    let filled : c.push.new.self.items ≡ Some c.args.state ∷ [] = search rules in
    subst (λ (xs : List (Option g.row.M.Denot)). TurnsKept (of_journal g.M.Journal) opened
    (opening (first ∷ first ∷ mark ∷ []) xs (starting c.args.passes first opened))) (sym filled)
    (starts (of_journal g.M.Journal) opened c.args.passes first mark c.args.state (search rules)
    (search rules) c.requires
    record { marked = search rules; short = search rules; below = search rules })
