use Rattle.std.proofs.Common.{rules}
use Rattle.ra_bench_replicas.proofs.counter.Counter.update.Goals as goal

pub returns-else-counts_up-clause-turn : goal.returns-else-counts_up-clause-turn
returns-else-counts_up-clause-turn c = search rules
