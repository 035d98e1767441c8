use Rattle.std.proofs.Common.{subst}
use Rattle.ra_rga_precedence.specs.Answers.{AreDemands}
use Rattle.ra_rga_precedence.specs.Foundations.{demands_in}
use Rattle.ra_rga_precedence.proofs.ordering.demands_of.Goals as goal

pub returns-in-Sound-clause-demands : goal.returns-in-Sound-clause-demands
returns-in-Sound-clause-demands c = λ past stands.
    subst (λ f. AreDemands past.records (demands_in f)) c.in-Sound.is (c.in_ok-conditions.ensures.demands past stands)
