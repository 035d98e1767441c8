use Rattle.ra_ticket.proofs.Journals.{of_journal}
use Rattle.ra_ticket.proofs.Partings.{parted, part_marked, bounds_are}
use Rattle.ra_ticket.proofs.meet.look_and_part.Goals as goal

pub returns-clause-parted : goal.returns-clause-parted
returns-clause-parted g c = λ n m of of_other. let idle = c.requires.idle in
    let looked = c.look_together-mark.ensures in
    let cut = c.split_first-first.ensures in
    parted _ _ _ _ _ _ n m idle.0 of idle.1 of_other c.join.ensures.met looked.idle looked.numbers
    looked.sees looked.bounds.0 looked.bounds.1 cut.first cut.rest

pub returns-clause-marked : goal.returns-clause-marked
returns-clause-marked g c = let cut = c.split_first-first.ensures in let marked = c.look_together-mark.ensures.marked in
    let j = of_journal g.M.Journal in
    (part_marked j _ _ _ _ cut.first marked, part_marked j _ _ _ _ cut.rest marked)

pub returns-clause-bounds : goal.returns-clause-bounds
returns-clause-bounds g c = bounds_are _ _ _ _ _ _ c.requires.idle.0 c.requires.idle.1
    c.join.ensures.met c.look_together-mark.ensures.bounds c.split_first-first.ensures.first

pub returns-clause-rest_bounds : goal.returns-clause-rest_bounds
returns-clause-rest_bounds g c = bounds_are _ _ _ _ _ _ c.requires.idle.0 c.requires.idle.1
    c.join.ensures.met c.look_together-mark.ensures.bounds c.split_first-first.ensures.rest
