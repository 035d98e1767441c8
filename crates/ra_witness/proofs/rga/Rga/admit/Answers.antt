use Rattle.std.proofs.Common.{◌∙◌, refl, sym, ap, subst}
use Rattle.std.specs.Prelude.{is_some, IfSome, IfOk}
use Rattle.std.specs.Result.{result_err}
use Rattle.ra_labels.specs.declared.kind.Kind.TheVariants as variant
use Rattle.ra_labels.specs.declared.reply.Cause.TheVariants.{Update}
use Rattle.ra_labels.specs.Rewriting.{acts_of}
use Rattle.ra_rewrite.specs.Parts.{acts_in}
use Rattle.ra_labels.specs.Specification.{state_after}
use Rattle.ra_labels.specs.Insertion.{delivered_updates}
use Rattle.ra_labels.specs.HistorySoFar.{history_of}
use Rattle.ra_witness.specs.Labels.{cause_in}
use Rattle.ra_witness.specs.Rga.{IsFoundBy, IsFoundFor}
use Rattle.ra_witness.proofs.Forms.{of_its_kind, its_replica, its_op}
use Rattle.ra_witness.proofs.RgaCauses.{asks_only, refused_unless, kept_if_some, query_cause, update_cause}
use Rattle.ra_witness.proofs.rga.Rga.admit.Goals as goal

pub returns-in-After-clause-cause : goal.returns-in-After-clause-cause
returns-in-After-clause-cause c = λ initial_replicas records next stands offered acts.
    let label = c.args.label.now in
    let found = c.admit_insertion-insertion.result in
    let is = sym (its_op (history_of variant.Rga initial_replicas records) next label offered) ∙ c.in-After.is in
    ap result_err c.ok_or.ensures.value
    ∙ refused_unless found Update
    ∙ update_cause initial_replicas records next label offered (is_some found) (λ o. ap (λ p. cause_in o (acts_of p)) is)
    (c.admit_insertion-insertion.ensures.exactly initial_replicas records next label stands offered is refl)

pub returns-in-After-clause-found : goal.returns-in-After-clause-found
returns-in-After-clause-found c =
    let self = c.args.self.now in
    let label = c.args.label.now in
    let found = c.admit_insertion-insertion.result in
    subst (λ r. IfOk r (IsFoundFor self label)) (sym c.ok_or.ensures.value)
    (kept_if_some (IsFoundFor self label) found Update
    (subst (λ op. IfSome found (IsFoundBy self op label.stamp)) (sym c.in-After.is) c.admit_insertion-insertion.ensures.found))

pub returns-in-RgaRemove-clause-cause : goal.returns-in-RgaRemove-clause-cause
returns-in-RgaRemove-clause-cause c = λ initial_replicas records next stands offered acts.
    let label = c.args.label.now in
    let found = c.admit_removal-removal.result in
    let is = sym (its_op (history_of variant.Rga initial_replicas records) next label offered) ∙ c.in-RgaRemove.is in
    let replica = its_replica (history_of variant.Rga initial_replicas records) next label offered in
    ap result_err c.ok_or-in-RgaRemove.ensures.value
    ∙ refused_unless found Update
    ∙ update_cause initial_replicas records next label offered (is_some found) (λ o. ap (λ p. cause_in o (acts_of p)) is)
    (c.admit_removal-removal.ensures.exactly initial_replicas records next label stands offered (sym replica) is)

pub returns-in-RgaRemove-clause-found : goal.returns-in-RgaRemove-clause-found
returns-in-RgaRemove-clause-found c =
    let self = c.args.self.now in
    let label = c.args.label.now in
    let found = c.admit_removal-removal.result in
    subst (λ r. IfOk r (IsFoundFor self label)) (sym c.ok_or-in-RgaRemove.ensures.value)
    (kept_if_some (IsFoundFor self label) found Update
    (subst (λ op. IfSome found (IsFoundBy self op label.stamp)) (sym c.in-RgaRemove.is)
    (c.admit_removal-removal.ensures.found label.stamp)))

pub returns-in-Some-clause-cause : goal.returns-in-Some-clause-cause
returns-in-Some-clause-cause c = λ initial_replicas records next stands offered acts.
    let label = c.args.label.now in
    let past = history_of variant.Rga initial_replicas records in
    let same = its_op past next label offered in
    let asks = asks_only next.op (λ a x is. c.in_default.not-After a x (same ∙ is)) (λ x is. c.in_default.not-RgaRemove x (same ∙ is)) (of_its_kind past next label offered) in
    sym c.in-Some.is ∙ c.cause_of_query.ensures initial_replicas records stands
    ∙ ap (λ r. cause_in (state_after variant.Rga (delivered_updates variant.Rga records r)) (acts_in c.args.parts.now)) (its_replica past next label offered)
    ∙ ap (cause_in (state_after variant.Rga (delivered_updates variant.Rga records next.by))) acts
    ∙ query_cause initial_replicas records next label offered asks

pub returns-in-None-clause-cause : goal.returns-in-None-clause-cause
returns-in-None-clause-cause c = λ initial_replicas records next stands offered acts.
    let label = c.args.label.now in
    let past = history_of variant.Rga initial_replicas records in
    let same = its_op past next label offered in
    let asks = asks_only next.op (λ a x is. c.in_default.not-After a x (same ∙ is)) (λ x is. c.in_default.not-RgaRemove x (same ∙ is)) (of_its_kind past next label offered) in
    sym c.in-None.is ∙ c.cause_of_query.ensures initial_replicas records stands
    ∙ ap (λ r. cause_in (state_after variant.Rga (delivered_updates variant.Rga records r)) (acts_in c.args.parts.now)) (its_replica past next label offered)
    ∙ ap (cause_in (state_after variant.Rga (delivered_updates variant.Rga records next.by))) acts
    ∙ query_cause initial_replicas records next label offered asks

pub returns-in-None-clause-found : goal.returns-in-None-clause-found
returns-in-None-clause-found c = record {
  no_insertion = c.in_default.not-After;
  no_removal = c.in_default.not-RgaRemove;
}
