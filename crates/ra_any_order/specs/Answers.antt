-- What the answer states.
use Rattle.std.specs.Prelude.{List}
use Rattle.ra_labels.specs.declared.kind.Kind.{Kind}
use Rattle.ra_labels.specs.Records.{Records}
use Rattle.ra_theorems.specs.AnyOrder.{NoneLinearizes}
use Rattle.ra_precedence.specs.Reasons.{AreReasons}
use Rattle.ra_precedence.specs.Conditions.{Condition, IsStuck}
use Rattle.ra_some_order.specs.LabelOrders.{OrderExplains}
use Rattle.ra_any_order.specs.declared.answer.AnyOrder.{AnyOrder}
use Rattle.ra_any_order.specs.declared.answer.AnyOrder.TheVariants.{Exists, NoneExists}
use Rattle.ra_any_order.specs.declared.answer.Refutation.{Refutation}
use Rattle.ra_any_order.specs.declared.answer.Refutation.TheVariants.{Read, Stuck}
use Rattle.ra_any_order.specs.Requirements.{AreRequired, IsImpossible}

-- holds if the reason is one: an impossible read, or a set that is stuck for required conditions, with its reasons
abbrev pub IsReason : Records → Refutation → Type 0
IsReason records (Read n element) = IsImpossible records n element
IsReason records (Stuck set) =
    (conditions : List Condition) × AreRequired records conditions × IsStuck conditions set.labels.items
    × AreReasons conditions set.reasons.items

-- holds if the order explains the records; or if the reason is one, and no sequence at all linearizes the records
abbrev pub IsAnswer : Kind → Records → AnyOrder → Type 0
IsAnswer kind records (Exists order) = OrderExplains kind records order.items
IsAnswer kind records (NoneExists reason) = IsReason records reason × NoneLinearizes kind records
