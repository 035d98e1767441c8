use Rattle.ra_theorems.proofs.TheoremIndex.{new_label_is_one_step-counter, new_label_is_one_step-register, new_label_is_one_step-lww_set}
use Rattle.ra_theorems.proofs.theorems.one_step.new_label_is_one_step.Goals as goal

pub returns-clause-counter : goal.returns-clause-counter
returns-clause-counter c = new_label_is_one_step-counter

pub returns-clause-register : goal.returns-clause-register
returns-clause-register c = new_label_is_one_step-register

pub returns-clause-lww_set : goal.returns-clause-lww_set
returns-clause-lww_set c = new_label_is_one_step-lww_set
