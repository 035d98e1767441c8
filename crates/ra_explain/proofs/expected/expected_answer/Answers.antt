use Rattle.std.proofs.Common.{◌≡◌, Option, subst}
use Rattle.std.specs.Prelude.{IfOk}
use Rattle.ra_labels.specs.declared.operation.Op.{Op}
use Rattle.ra_explain.proofs.ExpectedAnswers.{told_at_fault}
use Rattle.ra_explain.proofs.expected.expected_answer.Goals as goal

pub returns-in-Query : goal.returns-in-Query
returns-in-Query c =
    let m = c.args.monitor.now in
    record {
      answer = subst (λ (expected : Option Op). IfOk c.expected_at.result (λ answer. answer ≡ expected))
          (told_at_fault m.setup m.log c.args.fault c.log.ensures.legal c.requires.fault c.in-Query.is)
          c.expected_at.ensures;
    }
