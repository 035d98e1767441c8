use Rattle.ra_explain.proofs.Agreements.{AreScanned}
use Rattle.ra_explain.proofs.agreement.reversed_pair.Given as goal

abbrev pub invariant-loop-position : goal.invariant-loop-position
invariant-loop-position l = AreScanned l.list l.other l.position l.latest l.last
