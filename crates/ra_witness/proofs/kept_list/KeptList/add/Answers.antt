use Rattle.std.proofs.Common.{◌∷◌, refl, ap, sym, ◌∙◌, arith}
use Rattle.ra_labels.specs.declared.kind.Kind.TheVariants as kinds
use Rattle.ra_labels.specs.HistorySoFar.{operate}
use Rattle.ra_labels.specs.declared.label.Label.{Label}
use Rattle.ra_list_effects.specs.Past.{with_operation}
use Rattle.ra_witness.proofs.KeptLists.{elements_few, within}
use Rattle.ra_witness.proofs.Failures.{shown_by_it}
use Rattle.ra_witness.proofs.ListCauses.{cause_is}
use Rattle.ra_witness.proofs.TakenOperations.{past_now, explained, unexplained, cycle_now}
use Rattle.ra_witness.proofs.kept_list.KeptList.add.Goals as goal

pub add-requires-clause-few : goal.add-requires-clause-few
add-requires-clause-few c =
    let may = c.requires.may in
    let few = elements_few c.args.self.now.effects may.stands.past may.initial_replicas may.records may.stands.stands may.stands.is in
    omega (arith, few, may.offered.few)

pub returns-in-Some-clause-taken : goal.returns-in-Some-clause-taken
returns-in-Some-clause-taken c = λ initial_replicas records next stands offered none.
    let past = stands.past in
    let same = sym (ap (λ (l : Label). l.op) offered.becomes) ∙ c.in-List.is in
    let right = cause_is past initial_replicas records next c.args.label.now stands.is offered c.in-List.op same ∙ none in
    let inside = within c.args.self.now.effects past stands.stands in
    let after = rw c.in-Some.is at c.in_ok-cycle.ensures.added past stands.stands right in (
      record { past = past; stands = after.0; is = stands.is },
      record {
        fails = unexplained past initial_replicas records next c.args.label.now c.in-List.op stands.is offered same right
            inside c.in-Some.cycle.items after.1;
        cause = c.of_elements.ensures.cause;
        cycle = shown_by_it kinds.List (operate next ∷ records) c.of_elements.result c.in-Some.cycle
            c.of_elements.ensures.cause c.of_elements.ensures.cycle (
              refl,
              cycle_now past initial_replicas records next c.args.label.now c.in-List.op stands.is offered same right inside
                  c.in-Some.cycle.items after.1,
            );
      },
    )

pub returns-in-None-clause-taken : goal.returns-in-None-clause-taken
returns-in-None-clause-taken c = λ initial_replicas records next stands offered none.
    let past = stands.past in
    let operation = c.in-List.op in
    let same = sym (ap (λ (l : Label). l.op) offered.becomes) ∙ c.in-List.is in
    let right = cause_is past initial_replicas records next c.args.label.now stands.is offered operation same ∙ none in
    let after = rw c.in-None.is at c.in_ok-cycle.ensures.added past stands.stands right in
    let inside = within c.args.self.now.effects past stands.stands in
    let later = with_operation past c.args.label.now.replica operation c.args.label.now.number in
    let (order, whole, extends) = c.invariant.ensures later after in (
      record {
        past = later;
        stands = after;
        is = past_now past initial_replicas records next c.args.label.now operation stands.is offered same right inside;
      },
      explained past initial_replicas records next c.args.label.now operation stands.is offered same right inside
          order whole.0 extends (λ x there. (whole.1 x).1 there),
    )
