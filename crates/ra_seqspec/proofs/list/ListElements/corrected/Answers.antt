use Rattle.std.proofs.Common.{subst, rules}
use Rattle.std.specs.List.Sorted.{IsStrictlySortedBy}
use Rattle.std.specs.Ordering.{nat_cmp}
use Rattle.ra_seqspec.proofs.ListAnswers.{corrected_is}
use Rattle.ra_seqspec.proofs.list.ListElements.corrected.Goals as goal

pub returns-clause-answer : goal.returns-clause-answer
returns-clause-answer c = search rules

pub returns-clause-right : goal.returns-clause-right
returns-clause-right c =
    corrected_is c.args.self.now c.args.query.now c.match-query.answer
    (subst (λ list. IsStrictlySortedBy nat_cmp list.inserted) c.self.view_is c.self.invariant.0)
    (returns-clause-answer c)
