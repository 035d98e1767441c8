use Rattle.std.proofs.Common.{◌≡◌, Option, Some, None, sym, ◌∙◌}
use Rattle.std.proofs.lemmas.Option.{none-some}
use Rattle.ra_labels.proofs.Results.{on_ok}
use Rattle.ra_labels.specs.FreeList.{ListState}
use Rattle.ra_list_effects.specs.Past.{with_delivery}
use Rattle.ra_witness.proofs.TakenDeliveries.{change_told, past_told, replica_there}
use Rattle.ra_witness.proofs.kept_list.KeptList.deliver.Goals as goal

there_is : (o : Option ListState) (s : ListState) → o ≡ Some s → ¬ (o ≡ None)
there_is o s is none = none-some s (sym none ∙ is)

pub deliver-requires : goal.deliver-requires
deliver-requires c =
    let may = c.requires in
    let past = may.stands.past in
    let it = change_told past may.initial_replicas may.records c.args.replica c.args.label may.stands.is may.told in
    record {
      past = past;
      stands = may.stands.stands;
      there = replica_there past may.initial_replicas may.records c.args.replica c.args.label may.stands.is may.told;
      update = it.change;
      found = it.found;
      admitted = there_is _ it.next it.step;
    }

pub returns-clause-delivered : goal.returns-clause-delivered
returns-clause-delivered c = λ initial_replicas records stands told.
    let past = stands.past in
    let it = change_told past initial_replicas records c.args.replica c.args.label stands.is told in
    on_ok c.deliver.result (c.deliver.ensures.delivered past it.change stands.stands
    (replica_there past initial_replicas records c.args.replica c.args.label stands.is told) it.found
    (there_is _ it.next it.step)) (λ after. record {
      past = with_delivery past c.args.replica it.change;
      stands = after;
      is = past_told past initial_replicas records c.args.replica c.args.label stands.is told;
    })
