use Rattle.ra_labels.proofs.Results.{on_ok}
use Rattle.ra_list_effects.specs.Past.{with_join}
use Rattle.ra_witness.proofs.KeptLists.{joined}
use Rattle.ra_witness.proofs.kept_list.KeptList.join.Goals as goal

pub returns-clause-joined : goal.returns-clause-joined
returns-clause-joined c = λ initial_replicas records stands joins.
    on_ok c.join.result (c.join.ensures.joined stands.past stands.stands) (λ after. record {
      past = with_join stands.past c.args.from;
      stands = after;
      is = joined stands.past initial_replicas records c.args.from stands.is joins;
    })
