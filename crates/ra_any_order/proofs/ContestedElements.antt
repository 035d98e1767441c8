-- Lemmas on the elements of an LWW set with additions and removals among their newest visible updates.
use Rattle.std.proofs.Common.{◌≡◌, ℕ, ◌<◌, ◌≤◌, true, false, List, [], Option, Some, None, sym, ap, ◌∙◌, subst}
use Rattle.std.specs.Prelude.{slice_get, Contains}
use Rattle.std.specs.Option.{option_map_or}
use Rattle.std.proofs.lemmas.Bool.{false≢true, and_parts}
use Rattle.std.proofs.lemmas.Option.{same_Some}
use Rattle.ra_labels.specs.declared.operation.Op.{Op}
use Rattle.ra_labels.specs.declared.operation.Op.TheVariants as op
use Rattle.ra_labels.specs.Records.{Records, label_count}
use Rattle.ra_labels.specs.Visibility.{sees}
use Rattle.ra_labels.proofs.Members.{what_passes}
use Rattle.ra_theorems.proofs.TheoremIndex.{sees_earlier_updates-earlier}
use Rattle.ra_any_order.specs.declared.seen_updates.SeenUpdates.{SeenUpdates}
use Rattle.ra_any_order.specs.Changes.{changes, newest_in}
use Rattle.ra_any_order.specs.Elements.{leads, AreNewestOf}
use Rattle.ra_any_order.specs.NextRead.{with_read}
use Rattle.ra_any_order.specs.PossibleElements.{label_operation, IsNewestUpdate, IsContested}
use Rattle.ra_any_order.specs.Reading.{passes_at}
use Rattle.ra_any_order.specs.Standings.{AreSeenUpdates, some_leads, is_contested}
use Rattle.ra_any_order.proofs.ElementReads.{added, removed}
use Rattle.ra_any_order.proofs.NarrowSides.{AreListed}
use Rattle.ra_any_order.proofs.NextReads.{same_operation, listed_now}

added_of : (x : ℕ) (o : Option Op) → option_map_or (leads true x) o false ≡ true → o ≡ Some (op.LwwAdd x)
added_of x None is = absurd (false≢true is)
added_of x (Some operation) is = ap Some (added x operation is)

removed_of : (x : ℕ) (o : Option Op) → option_map_or (leads false x) o false ≡ true → o ≡ Some (op.LwwRemove x)
removed_of x None is = absurd (false≢true is)
removed_of x (Some operation) is = ap Some (removed x operation is)

-- a contested element is one that visible updates change
pub contested_element : (operations : List Op) (seen : SeenUpdates) (n : ℕ) (records : Records)
    → AreSeenUpdates records operations n seen → (x : ℕ) (newest : List ℕ)
    → AreNewestOf seen.newest x seen.replicas newest → is_contested operations newest x ≡ true
    → Contains seen.elements.items x
contested_element operations seen n records are x newest of both =
    let (w, there, adds) = what_passes (passes_at operations (leads true x)) newest
    (and_parts (some_leads operations true x newest) (some_leads operations false x newest) both).0 in
    let (replica, low, at) = of.each w there in
    let (seen_it, issued, passes) = are.newest.seen x replica w at in
    are.elements x w seen_it passes

module _ (before : Records) (operations : List Op) (listed : AreListed before operations) (by : ℕ) (seen : SeenUpdates)
    (are : AreSeenUpdates (with_read before by (op.LwwRead [])) operations (label_count before) seen) (x : ℕ)
    (newest : List ℕ) (of : AreNewestOf seen.newest x seen.replicas newest) where
  abbrev n : ℕ
  n = label_count before

  abbrev now : Records
  now = with_read before by (op.LwwRead [])

  operation_of : (k : ℕ) → k < n → label_operation now k ≡ slice_get operations k
  operation_of k low =
      sym (listed_now before operations listed by (op.LwwRead []) k)
      ∙ same_operation before operations listed by (op.LwwRead []) k low

  low_seen : (k : ℕ) → sees now n k ≡ true → k < n
  low_seen k seen_it = sees_earlier_updates-earlier now n k seen_it

  newest_update : (w : ℕ) → Contains newest w → (operation : Op) → slice_get operations w ≡ Some operation
      → IsNewestUpdate now n x w operation
  newest_update w among operation is =
      let (replica, low, at) = of.each w among in
      let (seen_it, issued, passes) = are.newest.seen x replica w at in record {
        seen = seen_it;
        is = operation_of w (low_seen w seen_it) ∙ is;
        latest =
            λ k other seen_k same is_other changes_it.
            let passes_k : passes_at operations (changes x) k ≡ true =
            ap (λ o. option_map_or (changes x) o false) (sym (operation_of k (low_seen k seen_k)) ∙ is_other) ∙ changes_it in
            let (m, at_m, later) = are.newest.latest x k seen_k passes_k in
            let its = subst (λ r. newest_in seen.newest x r ≡ Some m) (same ∙ issued) at_m in
            subst (λ j. k ≤ j) (same_Some m w (sym its ∙ at)) later;
      }

  pub is_contested_now : is_contested operations newest x ≡ true → IsContested before by x
  is_contested_now contested =
      let (adds, removes_it) = and_parts (some_leads operations true x newest) (some_leads operations false x newest)
      contested in
      let (a, a_there, a_adds) = what_passes (passes_at operations (leads true x)) newest adds in
      let (r, r_there, r_removes) = what_passes (passes_at operations (leads false x)) newest removes_it in (
        (a, newest_update a a_there (op.LwwAdd x) (added_of x (slice_get operations a) a_adds)),
        (r, newest_update r r_there (op.LwwRemove x) (removed_of x (slice_get operations r) r_removes)),
      )
