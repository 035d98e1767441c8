-- The named order of a kind, either execution order or timestamp order, with the properties of both.
use Rattle.std.specs.Prelude.{◌≡◌, ℕ, ◌<◌, List, map}
use Rattle.ra_labels.specs.declared.command.Command.TheVariants.{Deliver, Join}
use Rattle.ra_labels.specs.declared.limits.TheConstants.{MOST_REPLICAS}
use Rattle.ra_labels.specs.HistorySoFar.{History, history_with, replicas_of}
use Rattle.ra_visibility.specs.Order.{numbers_in}
use Rattle.ra_exec_order.specs.contracts.exec_order.ExecOrderNamedOrder.TheImpl as executed
use Rattle.ra_exec_order.specs.contracts.exec_order.ExecOrderNamedOrder.TheImpl.Laws as executed_laws
use Rattle.ra_time_order.specs.Standing.{IsTimeOrderOf}
use Rattle.ra_time_order.specs.NamedOrderTheorems.{listed-named, stands_joined, stands_delivered}
use Rattle.ra_monitor.specs.declared.order.Order.{Order}
use Rattle.ra_monitor.specs.declared.order.Order.TheVariants.{Execution, Time}

-- the numbers of its labels, in this order
abbrev pub listed_in : Order → List ℕ
listed_in (Execution order) = executed.ghosts.listed order
listed_in (Time order) = map (λ entry. entry.label) order.entries

-- the number of further labels that it has room for
abbrev pub room_in : Order → ℕ
room_in (Execution order) = executed.ghosts.room order
room_in (Time order) = order.room

-- holds if it is the order of the labels of this past
abbrev pub IsOrderOf : Order → History → Type 0
IsOrderOf (Execution order) past = executed.ghosts.stands_for order past
IsOrderOf (Time order) past = IsTimeOrderOf order past

-- the list of an order is the named order of its past
pub lists_named : (order : Order) (past : History)
    → IsOrderOf order past → listed_in order ≡ numbers_in past.kind past.records
lists_named (Execution order) past stands = executed_laws.lists-law order past stands
lists_named (Time order) past stands = listed-named order past stands

-- a join preserves the order
pub keeps_joined : (order : Order) (past : History) (joined from : ℕ)
    → IsOrderOf order past → replicas_of past < MOST_REPLICAS → IsOrderOf order (history_with past (Join joined from))
keeps_joined (Execution order) past joined from stands room =
    executed_laws.keeps_joined-law order past joined from stands room
keeps_joined (Time order) past joined from stands room =
    stands_joined order past joined from stands room

-- a delivery preserves the order
pub keeps_delivered : (order : Order) (past : History) (to label : ℕ)
    → IsOrderOf order past → IsOrderOf order (history_with past (Deliver to label))
keeps_delivered (Execution order) past to label stands =
    executed_laws.keeps-law order past to label stands
keeps_delivered (Time order) past to label stands =
    stands_delivered order past to label stands
