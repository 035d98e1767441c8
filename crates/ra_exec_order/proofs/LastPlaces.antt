-- Lemmas on the place of a new label in execution order.
use Rattle.std.proofs.Common.{◌≡◌, true, List, ◌∷◌, [], ◌++◌, Some, refl, sym, ap, ◌∙◌}
use Rattle.std.specs.Prelude.{reverse, drop, length, not}
use Rattle.std.specs.List.{list_all, slice_get}
use mathlib.Core.List.{reverse-cons}
use Rattle.std.proofs.Math.Seq.{drop-length}
use Rattle.std.proofs.lemmas.List.{length-reverse}
use Rattle.ra_labels.specs.declared.kind.Kind.{Kind}
use Rattle.ra_labels.specs.declared.label.Label.{Label}
use Rattle.ra_labels.specs.Records.{Records, label_count, labels_of}
use Rattle.ra_labels.specs.NamedOrder.{named_labels}
use Rattle.ra_labels.proofs.Counted.{labels_counted}
use Rattle.ra_labels.specs.HistorySoFar.{NextOperation, operate, label_of}
use Rattle.ra_theorems.proofs.TheoremIndex.{execution_order_is_acceptance_order-labels}
use Rattle.ra_visibility.specs.declared.order.Place.{Place}
use Rattle.ra_visibility.specs.Order.{IsByExecution, IsPlaceOf, must_stand_before}

get_at_seam : (xs : List Label) (y : Label) → slice_get (xs ++ y ∷ []) (length xs) ≡ Some y
get_at_seam [] y = refl
get_at_seam (x ∷ xs) y = get_at_seam xs y

-- a new label stands behind all labels, and fits
pub last_fits : (kind : Kind) (records : Records) (next : NextOperation) (place : Place) → IsByExecution kind
    → place.at ≡ label_count records → place.fits ≡ true → IsPlaceOf kind records next place
last_fits kind records next place by_execution at fits =
    let now = operate next ∷ records in
    let label = label_of records next in
    let older = reverse (labels_of records) in
    let long : place.at ≡ length older = at ∙ sym (labels_counted records) ∙ sym (length-reverse (labels_of records)) in
    let named : named_labels kind now ≡ older ++ label ∷ [] = execution_order_is_acceptance_order-labels kind now (by_execution now) ∙ reverse-cons label (labels_of records) in
    let none : drop place.at (named_labels kind records) ≡ [] =
    ap (λ labels. drop place.at labels) (execution_order_is_acceptance_order-labels kind records (by_execution records)) ∙ ap (λ n. drop n older) long ∙ drop-length older in
    record {
      at = ap (λ labels. slice_get labels place.at) named ∙ ap (slice_get (older ++ label ∷ [])) long ∙ get_at_seam older label;
      fits = fits ∙ sym (ap (list_all (λ m. not (must_stand_before now m label))) none);
    }
