-- Whether labels of a list show two elements in different orders.
use Rattle.std.specs.Prelude.{ℕ, List, []}
use Rattle.std.specs.Option.{option_map_or}
use Rattle.ra_labels.specs.declared.operation.Op.{Op}
use Rattle.ra_labels.specs.declared.operation.Op.TheVariants as op
use Rattle.ra_labels.specs.declared.list_operation.ListOp.{ListOp}
use Rattle.ra_labels.specs.declared.list_operation.ListOp.TheVariants as list
use Rattle.ra_labels.specs.Edges.{IsBefore}
use Rattle.ra_labels.specs.Neighborhood.{neighborhood}
use Rattle.ra_monitor.specs.Monitor.{MonitorEntry}
use Rattle.ra_explain.specs.declared.agreement.Disagreement.{Disagreement}
use Rattle.ra_explain.specs.Origin.{operation_of}

-- the elements that the operation shows, in its order
abbrev pub list_shown_by : ListOp → List ℕ
list_shown_by (list.Insert insertion) = neighborhood insertion
list_shown_by (list.Remove x) = []
list_shown_by (list.Read elements) = elements
list_shown_by (list.Part elements) = elements

-- the same; none if it is not an operation of a list
abbrev pub shown_by : Op → List ℕ
shown_by (op.List operation) = list_shown_by operation
shown_by _ = []

-- the elements that label n shows, given the labels' positions; none if there is no such label
abbrev pub shown_at : List MonitorEntry → List ℕ → ℕ → List ℕ
shown_at log places n = option_map_or shown_by (operation_of log places n) []

-- holds if the first list shows a before b, and the second one b before a
abbrev pub Disagree : List ℕ → List ℕ → ℕ → ℕ → Type 0
Disagree one other a b = IsBefore one a b × IsBefore other b a

-- holds if the lists show no two elements the other way round
abbrev pub NeverDisagree : List ℕ → List ℕ → Type 0
NeverDisagree one other = (a b : ℕ) → ¬ Disagree one other a b

-- holds if the label shows the two elements in their order, and label n the other way round
abbrev pub IsDisagreement : List MonitorEntry → List ℕ → ℕ → Disagreement → Type 0
IsDisagreement log places n d = Disagree (shown_at log places d.label) (shown_at log places n) d.first d.second

-- holds if no label shows two elements the other way round than label n
abbrev pub Agree : List MonitorEntry → List ℕ → ℕ → Type 0
Agree log places n = (m : ℕ) → NeverDisagree (shown_at log places m) (shown_at log places n)
