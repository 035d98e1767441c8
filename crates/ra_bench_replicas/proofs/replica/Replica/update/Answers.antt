use Rattle.std.proofs.Common.{rules}
use Rattle.ra_bench_replicas.proofs.replica.Replica.update.Goals as goal

pub returns-clause-fits : goal.returns-clause-fits
returns-clause-fits c = search rules

pub returns-clause-clock : goal.returns-clause-clock
returns-clause-clock c = search rules
