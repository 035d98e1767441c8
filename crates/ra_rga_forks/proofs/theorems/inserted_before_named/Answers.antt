use Rattle.ra_rga_forks.proofs.TheoremIndex.{inserted_before_named-itself, inserted_before_named-root, inserted_before_named-named_in, inserted_before_named-named}
use Rattle.ra_rga_forks.proofs.theorems.inserted_before_named.Goals as goal

pub returns-clause-itself : goal.returns-clause-itself
returns-clause-itself c = inserted_before_named-itself

pub returns-clause-named : goal.returns-clause-named
returns-clause-named c = inserted_before_named-named

pub returns-clause-root : goal.returns-clause-root
returns-clause-root c = inserted_before_named-root

pub returns-clause-named_in : goal.returns-clause-named_in
returns-clause-named_in c = inserted_before_named-named_in
