use Rattle.std.proofs.Common.{◌<◌, length, sym, ap, ◌∙◌, subst}
use Rattle.std.specs.Result.{result_err}
use Rattle.std.proofs.lemmas.List.{get_or_default}
use Rattle.ra_list_witness.specs.ListWitness.{ListWitness, no_view, view_at}
use Rattle.ra_list_witness.specs.Causes.{IsCauseOfInsertion}
use Rattle.ra_list_witness.proofs.list_witness.ListWitness.find_placement.Goals as goal

pub returns-clause-cause : goal.returns-clause-cause
returns-clause-cause c =
    let inside = c.self.inside in
    let replica = c.args.replica in
    let cause = result_err c.find_placement.result in
    let there = subst (λ vs. replica < length vs) (sym (ap (λ v. v.views) c.self.view_is)) c.requires in
    subst (λ (w : ListWitness). IsCauseOfInsertion w.elements (view_at w.views replica).marks c.args.insertion cause)
    c.self.view_is
    (subst (λ v. IsCauseOfInsertion inside.numbers v.marks c.args.insertion cause)
    (c.index.ensures ∙ get_or_default inside.views.items replica _ no_view there) c.find_placement.ensures.cause)
