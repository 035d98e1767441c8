use Rattle.std.proofs.Common.{rules}
use Rattle.ra_history_lines.specs.declared.format.Format.TheVariants.{Rah2}
use Rattle.ra_history_lines.proofs.NewNames.{new_may_join}
use Rattle.ra_history_lines.proofs.name.Names.add.Goals as goal

pub push-requires : goal.push-requires
push-requires c = new_may_join Rah2 c.self.inside.set.keys _ _ _ c.self.view_is (search rules steps 100000)
    c.is_new.ensures c.if-not-is_new.false

pub returns-in-Err-clause-fault : goal.returns-in-Err-clause-fault
returns-in-Err-clause-fault c = new_may_join Rah2 c.self.inside.set.keys _ _ _ c.self.view_is
    (search rules steps 100000) c.is_new.ensures c.if-not-is_new.false

pub returns-in-Ok-clause-may : goal.returns-in-Ok-clause-may
returns-in-Ok-clause-may c = new_may_join Rah2 c.self.inside.set.keys _ _ _ c.self.view_is (search rules steps 100000)
    c.is_new.ensures c.if-not-is_new.false
