use Rattle.std.proofs.Common.{◌∷◌, refl}
use Rattle.ra_labels.specs.NamedOrder.{named_sequence}
use Rattle.ra_labels.specs.Linearization.{updates_admitted}
use Rattle.ra_labels.specs.HistorySoFar.{operate}
use Rattle.ra_witness.proofs.Causes.{cause_where_it_fits, still_admitted}
use Rattle.ra_witness.proofs.theorems.cause_at_new_label.Goals as goal

pub returns : goal.returns
returns c = record {
  cause = λ kind records next holds extended.
      cause_where_it_fits kind records next (updates_admitted kind (named_sequence kind (operate next ∷ records))) holds extended refl;
  admitted = still_admitted;
}
