use Rattle.ra_theorems.proofs.TheoremIndex.{kind_order-counter, kind_order-register}
use Rattle.ra_theorems.proofs.TheoremIndex.{kind_order-lww_set, kind_order-or_set}
use Rattle.ra_theorems.proofs.TheoremIndex.{kind_order-rga}
use Rattle.ra_theorems.proofs.theorems.timestamps.kind_order.Goals as goal

pub returns-clause-counter : goal.returns-clause-counter
returns-clause-counter c = kind_order-counter

pub returns-clause-register : goal.returns-clause-register
returns-clause-register c = kind_order-register

pub returns-clause-lww_set : goal.returns-clause-lww_set
returns-clause-lww_set c = kind_order-lww_set

pub returns-clause-or_set : goal.returns-clause-or_set
returns-clause-or_set c = kind_order-or_set

pub returns-clause-rga : goal.returns-clause-rga
returns-clause-rga c = kind_order-rga
