use Rattle.ra_theorems.proofs.TheoremIndex.{kept_entries_preserve_order-kept, kept_entries_preserve_order-dropped, kept_entries_preserve_order-removed}
use Rattle.ra_theorems.proofs.theorems.late.kept_entries_preserve_order.Goals as goal

pub returns-clause-kept : goal.returns-clause-kept
returns-clause-kept c = kept_entries_preserve_order-kept

pub returns-clause-dropped : goal.returns-clause-dropped
returns-clause-dropped c = kept_entries_preserve_order-dropped

pub returns-clause-removed : goal.returns-clause-removed
returns-clause-removed c = kept_entries_preserve_order-removed
