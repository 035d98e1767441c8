use Rattle.std.proofs.Common.{rules}
use Rattle.ra_bench_replicas.proofs.message.Message.copy.Goals as goal

pub returns : goal.returns
returns c = search rules
