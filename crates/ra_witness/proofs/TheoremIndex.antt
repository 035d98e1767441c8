-- Index of the theorems that other crates cite, each under the name of the function whose clause it is.
use Rattle.std.proofs.Common.{◌≡◌, ℕ, ◌≤◌, List, ◌++◌, Some}
use Rattle.ra_labels.specs.declared.kind.Kind.{Kind}
use Rattle.ra_labels.specs.declared.operation.Update.{Update}
use Rattle.ra_labels.specs.Records.{Records, label_count}
use Rattle.ra_labels.specs.Specification.{State, state_after}
use Rattle.ra_labels.specs.Insertion.{delivered_updates}
use Rattle.ra_seqspec.specs.Range.{IsInRange}
use Rattle.ra_seqspec.specs.declared.TheConstants.{FARTHEST_COUNT}
use Rattle.ra_witness.proofs.Range.{first_in_range}

pub delivered_state_in_range : (kind : Kind) (records : Records) (replica : ℕ)
    (first later : List Update) (state : State) → label_count records ≤ FARTHEST_COUNT
    → delivered_updates kind records replica ≡ first ++ later → state_after kind first ≡ Some state → IsInRange state
delivered_state_in_range = first_in_range
