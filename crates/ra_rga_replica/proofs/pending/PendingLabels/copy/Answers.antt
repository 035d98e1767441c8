use Rattle.std.proofs.Common.{sym, subst, ◌∙◌}
use Rattle.std.proofs.lemmas.List.Elements.{same_from_all_zip}
use Rattle.ra_rga_replica.specs.PendingLabels.{NoneEmpty}
use Rattle.ra_rga_replica.proofs.Entries.{cloned}
use Rattle.ra_rga_replica.proofs.pending.PendingLabels.copy.Goals as goal

pub invariant_of-result : goal.invariant_of-result
invariant_of-result c =
    let same = cloned _ _ (λ x y is. is) (λ v w says. same_from_all_zip _ v.items w.items says.0 (λ x y is. is))
    c.self.inside.under.entries c.in_ok-clone.field-0.entries c.in_ok-clone.ensures.cases in
    subst NoneEmpty (sym same) c.self.invariant

pub returns : goal.returns
returns c =
    cloned _ _ (λ x y is. is) (λ v w says. same_from_all_zip _ v.items w.items says.0 (λ x y is. is))
    c.self.inside.under.entries c.in_ok-clone.field-0.entries c.in_ok-clone.ensures.cases
    ∙ c.self.view_is
