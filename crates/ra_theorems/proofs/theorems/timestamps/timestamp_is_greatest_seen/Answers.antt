use Rattle.ra_theorems.proofs.TheoremIndex.{timestamp_is_greatest_seen-own, timestamp_is_greatest_seen-seen, timestamp_is_greatest_seen-greatest}
use Rattle.ra_theorems.proofs.theorems.timestamps.timestamp_is_greatest_seen.Goals as goal

pub returns-clause-own : goal.returns-clause-own
returns-clause-own c = timestamp_is_greatest_seen-own

pub returns-clause-seen : goal.returns-clause-seen
returns-clause-seen c = timestamp_is_greatest_seen-seen

pub returns-clause-greatest : goal.returns-clause-greatest
returns-clause-greatest c = timestamp_is_greatest_seen-greatest
