use Rattle.std.proofs.Common.{sym, ap, ◌∙◌}
use Rattle.std.specs.List.{slice_get}
use Rattle.ra_witness.specs.Sequence.{has_query_half}
use Rattle.ra_witness.proofs.ListStates.{halves_of}
use Rattle.ra_witness.proofs.kept_list.KeptList.has_update.Goals as goal

pub returns : goal.returns
returns c = λ initial_replicas records stands.
    c.has_update.ensures stands.past stands.stands
    ∙ sym (halves_of stands.past.updates c.args.label)
    ∙ ap (λ us. has_query_half (slice_get us c.args.label)) stands.is.states.labels
