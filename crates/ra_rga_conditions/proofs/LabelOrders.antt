-- An order of all labels of an RGA that keeps the precedence is that of an RA-linearization.
use Rattle.std.proofs.Common.{◌↔◌, ℕ, List, refl, sym, subst}
use Rattle.std.specs.Prelude.{filter}
use Rattle.ra_labels.specs.declared.kind.Kind.TheVariants.{Rga}
use Rattle.ra_labels.specs.Edges.{EachOnce, IsBefore}
use Rattle.ra_labels.specs.Records.{Records}
use Rattle.ra_labels.specs.Visibility.{is_update_at}
use Rattle.ra_theorems.proofs.TheoremIndex.{linearization_by_visibility}
use Rattle.ra_some_order.specs.LabelOrders.{IsOrderOfLabels, OrderExplains}
use Rattle.ra_some_order.specs.SomeOrder.{EachLabelIsOfKind}
use Rattle.ra_some_order.proofs.LabelOrders.{before_filtered}
use Rattle.ra_some_order.proofs.TheoremIndex.{label_order_has_sequence, updates_of_label_order-order, linearization_has_label_order-order, linearization_has_label_order-updates}
use Rattle.ra_rga_conditions.specs.Precedence.{MustStandBefore}
use Rattle.ra_rga_conditions.specs.Plain.{MeetsPlainConditions}
use Rattle.ra_rga_conditions.proofs.Precedences.{keeps_precedence}
use Rattle.ra_rga_conditions.proofs.PlainConditions.{plain_hold}
use Rattle.ra_rga_conditions.proofs.EarlierRecords.{precedes_updates}
use Rattle.ra_rga_conditions.proofs.ExplainedReads.{linearizes}

pub label_order_explains : (records : Records) (order : List ℕ) → EachLabelIsOfKind Rga records
    → MeetsPlainConditions records → IsOrderOfLabels records order
    → ((m n : ℕ) → MustStandBefore records m n → IsBefore order m n) → OrderExplains Rga records order
label_order_explains records order of_kind plain is keeps =
    let updates = filter (is_update_at records) order in
    let (sequence, same, extended, order_is, updates_are) = label_order_has_sequence Rga records order refl of_kind is in (
      is.each,
      (
        sequence,
        linearizes records sequence same of_kind
            (subst EachOnce (sym updates_are) (updates_of_label_order-order records order is.each).once)
            (λ m n first.
            let (m_updates, n_updates) = precedes_updates records m n first in
            subst (λ ns. IsBefore ns m n) (sym updates_are)
            (before_filtered (is_update_at records) order m n m_updates n_updates (keeps m n first)))
            plain extended,
        order_is,
      ),
    )

-- and such an order keeps the precedence, and the plain conditions hold
pub label_order_exactly : (records : Records) (order : List ℕ) → EachLabelIsOfKind Rga records
    → OrderExplains Rga records order ↔ (MeetsPlainConditions records × IsOrderOfLabels records order
    × ((m n : ℕ) → MustStandBefore records m n → IsBefore order m n))
label_order_exactly records order of_kind = (
  (λ (each, (sequence, linearizes, order_is)).
      let by_visibility = linearization_by_visibility Rga records sequence linearizes in (
        plain_hold records sequence of_kind by_visibility,
        subst (IsOrderOfLabels records) order_is
            (linearization_has_label_order-order Rga records sequence refl of_kind linearizes),
        λ m n first. subst (λ ns. IsBefore ns m n) order_is
            (linearization_has_label_order-updates Rga records sequence refl of_kind linearizes m n
            (keeps_precedence records sequence by_visibility m n first)),
      )),
  (λ (plain, is, keeps). label_order_explains records order of_kind plain is keeps),
)
