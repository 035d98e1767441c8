use Rattle.std.proofs.Common.{ap, ◌∙◌}
use Rattle.ra_monitor.specs.declared.setup.Setup.{Setup}
use Rattle.ra_bench.proofs.bench.open.Goals as goal

pub returns-in-Ok-open : goal.returns-in-Ok-open
returns-in-Ok-open c k d below =
    let same = c.in-Ok-open.ensures.setup k d below in
    (ap (λ (s : Setup). s.kind) same ∙ c.in-Ok.ensures.kind, ap (λ (s : Setup). s.replicas) same ∙ c.in-Ok.ensures.replicas)
