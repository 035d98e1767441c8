use Rattle.std.proofs.Common.{refl}
use Rattle.ra_bench_replicas.proofs.or_set.OrSet.read.Goals as goal

pub returns-clause-kind : goal.returns-clause-kind
returns-clause-kind c = refl
