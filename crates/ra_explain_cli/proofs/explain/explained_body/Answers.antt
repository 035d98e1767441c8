use Rattle.std.proofs.Common.{ℕ, List, subst}
use Rattle.ra_explain_cli.specs.Explained.{PutsExplanation}
use Rattle.ra_explain_cli.proofs.explain.explained_body.Goals as goal

pub returns : goal.returns
returns c =
    let of = c.in_ok-explanation.ensures in
    let e = c.in_ok-explanation.explanation in
    let new = c.put_explanation.new.body.items in (
      e,
      record {
        same_setup = of.setup;
        entries = of.log;
        legal = of.legal;
        report = of.report;
        places = of.places;
        replicas = of.replicas;
        undelivered = of.undelivered;
        rejected = of.rejected;
        violation = of.violation;
        conflict = of.conflict;
        second_opinion = of.second_opinion;
        one_list = of.one_list;
        remedies = of.remedies;
      },
      subst (λ (old : List ℕ). PutsExplanation c.args.form e c.args.names.now old new) c.new-body.ensures.items
          c.in_ok-put_explanation.ensures,
    )
