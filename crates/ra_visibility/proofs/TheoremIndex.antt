-- Index of the theorems on visibility. Each is exported under the name of the function whose clause it is; a theorem
-- with several clauses has one name for each, THEOREM-CLAUSE. Other crates use these names, and no other file of this
-- directory.
use Rattle.std.proofs.Common.{◌≡◌, ℕ, ◌<◌, sym, ap, ◌∙◌, arith}
use Rattle.std.specs.Prelude.{◌≤◌, ◌∷◌, ◌&&◌, nat_lt, length}
use Rattle.std.specs.List.{insert}
use Rattle.ra_labels.specs.declared.kind.Kind.{Kind}
use Rattle.ra_labels.specs.Records.{Records}
use Rattle.ra_labels.specs.NamedOrder.{named_labels}
use Rattle.ra_labels.specs.Visibility.{has_delivered, sees, is_update_at}
use Rattle.ra_visibility.specs.Seen.{count_in}
use Rattle.ra_visibility.specs.Tracked.{Tracked, IsVisibilityOf, replicas_in, labels_in, row_at, delivered_count, seen_in}
use Rattle.ra_labels.specs.Places.{issuer_of, issue_position}
use Rattle.ra_labels.specs.HistorySoFar.{History, NextOperation, operate, label_of}
use Rattle.ra_visibility.specs.declared.order.Place.{Place}
use Rattle.ra_visibility.specs.Order.{IsSeenBy, IsPlaceOf}
use Rattle.ra_visibility.proofs.Insertions.{at_its_place}
-- theorems
pub use Rattle.ra_visibility.proofs.Refusals.{refusal_same as refusal_matches_records, delivery_causal as delivery_preserves_causality}
pub use Rattle.ra_theorems.proofs.TheoremIndex.{delivery_extends_delivered-order as delivery_preserves_order-order}
pub use Rattle.ra_visibility.proofs.Insertions.{behind_no_greater as new_label_position}
pub use Rattle.ra_visibility.proofs.NewLabels.{extends_where_it_fits as extends_visibility_iff_label_fits, extends_where_each_fitted as extends_visibility_if_each_fits, delivery_extends as delivery_preserves_order-visibility, join_extends as join_preserves_order-visibility}
pub use Rattle.ra_theorems.proofs.TheoremIndex.{join_copies_delivered-order as join_preserves_order-order}
pub use Rattle.ra_visibility.proofs.SeenCounts.{issued-records as issued_matches_records}

-- a test of the count, in terms of the records
place_and_issuer : (t : Tracked) (past : History) (m : ℕ) (count : ℕ → ℕ) → IsVisibilityOf t past → m < labels_in t
    → ((row_at t m).is_update && nat_lt (row_at t m).place (count (row_at t m).replica)) ≡ (is_update_at past.records m && nat_lt (issue_position past.records m) (count (issuer_of past.records m)))
place_and_issuer t past m count stands there =
    ap (λ b. b && nat_lt (row_at t m).place (count (row_at t m).replica)) (stands.updates m)
    ∙ ap (λ p. is_update_at past.records m && nat_lt p (count (row_at t m).replica)) (stands.place m there)
    ∙ ap (λ q. is_update_at past.records m && nat_lt (issue_position past.records m) (count q)) (stands.issuer m there)

pub delivered_prefix_by_counts-seen : (t : Tracked) (past : History) (n m : ℕ) → IsVisibilityOf t past → n < labels_in t → m < labels_in t
    → sees past.records n m ≡ (is_update_at past.records m && nat_lt (issue_position past.records m) (count_in (seen_in t n) (issuer_of past.records m)))
delivered_prefix_by_counts-seen t past n m stands known there =
    sym (stands.sees n m known) ∙ place_and_issuer t past m (count_in (seen_in t n)) stands there

pub delivered_prefix_by_counts-delivered : (t : Tracked) (past : History) (replica m : ℕ) → IsVisibilityOf t past → replica < replicas_in t → m < labels_in t
    → has_delivered past.records replica m ≡ (is_update_at past.records m && nat_lt (issue_position past.records m) (delivered_count t replica (issuer_of past.records m)))
delivered_prefix_by_counts-delivered t past replica m stands known there =
    sym (stands.had replica m known) ∙ place_and_issuer t past m (delivered_count t replica) stands there

pub seen_matches_records : (t : Tracked) (past : History) (n : ℕ) → IsVisibilityOf t past → n < labels_in t → IsSeenBy past.records n (seen_in t n)
seen_matches_records t past n stands known = record {
  has = λ m. stands.sees n m known;
  first = λ m there. delivered_prefix_by_counts-seen t past n m stands known (omega (arith, there, stands.labels));
}

pub new_label_inserted_at_position-among : (kind : Kind) (records : Records) (next : NextOperation) (place : Place) → IsPlaceOf kind records next place
    → place.at ≤ length (named_labels kind records)
new_label_inserted_at_position-among kind records next place is = (at_its_place kind records next place is).0

pub new_label_inserted_at_position-inserted : (kind : Kind) (records : Records) (next : NextOperation) (place : Place) → IsPlaceOf kind records next place
    → named_labels kind (operate next ∷ records) ≡ insert (named_labels kind records) place.at (label_of records next)
new_label_inserted_at_position-inserted kind records next place is = (at_its_place kind records next place is).1
