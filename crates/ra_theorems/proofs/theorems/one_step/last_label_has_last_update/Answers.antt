use Rattle.ra_theorems.proofs.TheoremIndex.{last_label_has_last_update-register, last_label_has_last_update-lww_set}
use Rattle.ra_theorems.proofs.theorems.one_step.last_label_has_last_update.Goals as goal

pub returns-clause-register : goal.returns-clause-register
returns-clause-register c = last_label_has_last_update-register

pub returns-clause-lww_set : goal.returns-clause-lww_set
returns-clause-lww_set c = last_label_has_last_update-lww_set
