use Rattle.ra_time_order.proofs.TheoremIndex.{timestamp_order_kinds-register, timestamp_order_kinds-lww_set, timestamp_order_kinds-rga}
use Rattle.ra_time_order.proofs.theorems.timestamp_order_kinds.Goals as goal

pub returns-clause-register : goal.returns-clause-register
returns-clause-register c = timestamp_order_kinds-register

pub returns-clause-lww_set : goal.returns-clause-lww_set
returns-clause-lww_set c = timestamp_order_kinds-lww_set

pub returns-clause-rga : goal.returns-clause-rga
returns-clause-rga c = timestamp_order_kinds-rga
