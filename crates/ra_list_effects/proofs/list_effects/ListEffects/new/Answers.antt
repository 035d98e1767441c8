use Rattle.ra_list_effects.proofs.FirstEffects.{first_effects}
use Rattle.ra_list_effects.proofs.list_effects.ListEffects.new.Goals as goal

pub returns : goal.returns
returns c =
    let made = c.in_ok-new.ensures in
    first_effects c.in_ok-new.field-0 c.new-2.result.items c.args.replicas made.elements made.edges made.views made.marks
    c.new-2.ensures.items
