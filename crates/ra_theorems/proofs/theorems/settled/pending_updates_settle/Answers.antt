use Rattle.ra_theorems.proofs.TheoremIndex.{pending_updates_settle-starts, pending_updates_settle-follows}
use Rattle.ra_theorems.proofs.TheoremIndex.{pending_updates_settle-done, pending_updates_settle-ends}
use Rattle.ra_theorems.proofs.TheoremIndex.{pending_updates_settle-element}
use Rattle.ra_theorems.proofs.theorems.settled.pending_updates_settle.Goals as goal

pub returns-clause-starts : goal.returns-clause-starts
returns-clause-starts c = pending_updates_settle-starts

pub returns-clause-follows : goal.returns-clause-follows
returns-clause-follows c = pending_updates_settle-follows

pub returns-clause-done : goal.returns-clause-done
returns-clause-done c = pending_updates_settle-done

pub returns-clause-ends : goal.returns-clause-ends
returns-clause-ends c = pending_updates_settle-ends

pub returns-clause-element : goal.returns-clause-element
returns-clause-element c = pending_updates_settle-element
