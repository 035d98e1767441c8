use Rattle.std.proofs.Common.{rules}
use Rattle.ra_bench_replicas.proofs.replica.Replica.hold.Goals as goal

pub returns-clause-ok : goal.returns-clause-ok
returns-clause-ok c = search rules
