use Rattle.ra_some_order.proofs.FewerConditions.{chosen_extend, fewer_exactly}
use Rattle.ra_some_order.proofs.theorems.cover_requires_as_much.Goals as goal

pub returns-clause-visibility : goal.returns-clause-visibility
returns-clause-visibility c = chosen_extend

pub returns-clause-read : goal.returns-clause-read
returns-clause-read c = fewer_exactly
