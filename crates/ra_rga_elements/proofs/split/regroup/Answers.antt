use Rattle.std.proofs.Common.{refl}
use Rattle.ra_rga_elements.specs.Entries.{no_entry, entry_at}
use Rattle.ra_rga_elements.specs.Groups.{element_at}
use Rattle.ra_rga_elements.proofs.ElementGroups.{regrouped_more}
use Rattle.ra_rga_elements.proofs.split.regroup.Goals as goal

pub loop-entry-preserved : goal.loop-entry-preserved
loop-entry-preserved c =
    let entries = c.args.entries.now in
    let at = c.loop-entry in
    regrouped_more c.args.elements.now at.elements entries at.entry-index no_entry c.args.group
    (element_at at.elements (entry_at entries at.entry-index).number)
    c.loop-entry-test.true at.invariant (c.requires at.entry-index no_entry c.loop-entry-test.true) refl
