use Rattle.std.proofs.Common.{rules}
use Rattle.ra_bench_replicas.proofs.replica.Replica.number.Goals as goal

pub returns : goal.returns
returns c = search rules
