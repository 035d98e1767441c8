use Rattle.std.proofs.Common.{ℕ, List, ap, ◌∙◌, subst}
use Rattle.std.specs.Prelude.{MatchOption}
use Rattle.ra_labels.specs.declared.edge.Edge.{Edge}
use Rattle.ra_explain.specs.Conflicts.{edges_of_labels, IsCycleOrNone}
use Rattle.ra_explain.specs.Agreement.{Agree, IsDisagreement}
use Rattle.ra_explain.proofs.conflict.Conflict.of.Goals as goal

pub returns : goal.returns
returns c = record {
  cycle = subst (λ (es : List Edge). IsCycleOrNone es c.in_ok-cycle.cycle.items)
      (c.deref-4.ensures.value ∙ c.in_ok-edges.ensures ∙ ap (edges_of_labels c.args.log.now) c.requires)
      c.in_ok-cycle.ensures;
  holding = c.in_ok-holding_of.ensures;
  pairs = subst (λ (ps : List ℕ). MatchOption c.in_ok-find_disagreement.field-0 (Agree c.args.log.now ps c.args.violation.now.fault.label)
      (IsDisagreement c.args.log.now ps c.args.violation.now.fault.label)) c.requires
      c.in_ok-find_disagreement.ensures;
}
