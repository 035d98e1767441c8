use Rattle.std.proofs.Common.{rules}
use Rattle.ra_bench_replicas.proofs.replica.Replica.new.Goals as goal

pub returns : goal.returns
returns c = search rules
