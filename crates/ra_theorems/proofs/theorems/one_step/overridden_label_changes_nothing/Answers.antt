use Rattle.ra_theorems.proofs.TheoremIndex.{overridden_label_changes_nothing-register, overridden_label_changes_nothing-lww_set}
use Rattle.ra_theorems.proofs.theorems.one_step.overridden_label_changes_nothing.Goals as goal

pub returns-clause-register : goal.returns-clause-register
returns-clause-register c = overridden_label_changes_nothing-register

pub returns-clause-lww_set : goal.returns-clause-lww_set
returns-clause-lww_set c = overridden_label_changes_nothing-lww_set
