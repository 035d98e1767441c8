use Rattle.ra_theorems.proofs.TheoremIndex.{delivery_is_one_step-counter, delivery_is_one_step-register}
use Rattle.ra_theorems.proofs.TheoremIndex.{delivery_is_one_step-lww_set, delivery_is_one_step-or_set}
use Rattle.ra_theorems.proofs.theorems.one_step.delivery_is_one_step.Goals as goal

pub returns-clause-counter : goal.returns-clause-counter
returns-clause-counter c = delivery_is_one_step-counter

pub returns-clause-register : goal.returns-clause-register
returns-clause-register c = delivery_is_one_step-register

pub returns-clause-lww_set : goal.returns-clause-lww_set
returns-clause-lww_set c = delivery_is_one_step-lww_set

pub returns-clause-or_set : goal.returns-clause-or_set
returns-clause-or_set c = delivery_is_one_step-or_set
