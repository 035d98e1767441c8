-- Lemmas on earlier records: an order that explains later ones explains them too.
use Rattle.std.proofs.Common.{◌≡◌, ℕ, true, List, ◌++◌, filter, ◌∙◌}
use Rattle.ra_labels.specs.declared.kind.Kind.{Kind}
use Rattle.ra_labels.specs.Records.{Records}
use Rattle.ra_labels.specs.Visibility.{is_update_at}
use Rattle.ra_labels.specs.Rewriting.{Part}
use Rattle.ra_labels.specs.Linearization.{is_visible_to, IsRaLinearizationBy}
use Rattle.ra_labels.proofs.Members.{kept-there, there-kept}
use Rattle.ra_list_model.proofs.OnceListed.{once_kept}
use Rattle.ra_theorems.specs.AnyOrder.{NoneLinearizes}
use Rattle.ra_theorems.proofs.TheoremIndex.{linearization_by_visibility, is_update_persists, delivered_are_updates-there}
use Rattle.ra_some_order.specs.UpdateConditions.{IsOrderOfUpdates}
use Rattle.ra_some_order.specs.SomeOrder.{SomeOrderExplains, EachLabelIsOfKind, is_decided_by_conditions, update_order}
use Rattle.ra_some_order.proofs.Linearizations.{plain_met, updates_ordered, conditions_met}
use Rattle.ra_some_order.proofs.Explanations.{some_order_exactly}
use Rattle.ra_some_order.proofs.LabelOrders.{met_in}
use Rattle.ra_some_order.proofs.NewLabels.{conditions_stay, plain_before}

-- the updates of the earlier records in an order of all updates
pub earlier_order : (later records : Records) (order : List ℕ) → IsOrderOfUpdates (later ++ records) order
    → IsOrderOfUpdates records (filter (is_update_at records) order)
earlier_order later records order is = record {
  once = once_kept (is_update_at records) order is.once;
  all =
      λ n. (
        (λ updates.
            let stays = is_update_persists later records n (delivered_are_updates-there records n updates) in
            kept-there (is_update_at records) order n ((is.all n).0 (stays ∙ updates)) updates),
        (λ there. (there-kept (is_update_at records) order n there).1),
      );
}

pub explained_earlier : (kind : Kind) (later records : Records) → is_decided_by_conditions kind ≡ true
    → EachLabelIsOfKind kind records → (sequence : List Part)
    → IsRaLinearizationBy (is_visible_to (later ++ records)) kind (later ++ records) sequence
    → SomeOrderExplains kind records
explained_earlier kind later records decided of_kind sequence linearizes =
    let all = later ++ records in
    let order = update_order sequence in
    let meets = conditions_met kind all sequence decided linearizes in
    (some_order_exactly kind records decided of_kind).1 (
      plain_before later records (plain_met kind all sequence decided linearizes),
      (
        filter (is_update_at records) order,
        earlier_order later records order (updates_ordered kind all sequence linearizes),
        met_in records order (λ condition there. meets condition (conditions_stay later records condition there)),
      ),
    )

pub none_later : (kind : Kind) (later records : Records) → is_decided_by_conditions kind ≡ true
    → EachLabelIsOfKind kind records → NoneLinearizes kind records → NoneLinearizes kind (later ++ records)
none_later kind later records decided of_kind none sequence linearizes =
    let (earlier, explains) = explained_earlier kind later records decided of_kind sequence linearizes in
    none earlier (linearization_by_visibility kind records earlier explains)
