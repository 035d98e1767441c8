use Rattle.std.proofs.Common.{◌≡◌, ℕ, Option, Some, None, subst}
use Rattle.std.specs.Prelude.{IfOk, IfSome, MatchOption}
use Rattle.std.specs.Global as global
use Rattle.std.proofs.lemmas.Result.{IfOk-weaker}
use Rattle.ra_labels.specs.declared.kind.Kind.{Kind}
use Rattle.ra_labels.specs.declared.kind.Kind.TheVariants as kinds
use Rattle.ra_labels.specs.Records.{Records}
use Rattle.ra_labels.specs.Linearization.{must_precede}
use Rattle.ra_labels.specs.NamedOrder.{named_sequence}
use Rattle.ra_labels.specs.Fault.{Holds}
use Rattle.ra_theorems.specs.OrderedLists.{IsListLinearization}
use Rattle.ra_theorems.proofs.TheoremIndex.{fault_none_implies_holds, records_before_fault_have_none-none, order_decides_linearization}
use Rattle.ra_witness.specs.ListOrder.{Explains}
use Rattle.ra_monitor.specs.Monitor.{Monitor, records_of, records_before_fault_in}
use Rattle.ra_monitor.specs.History.{history_in}
use Rattle.ra_monitor.proofs.monitor.Monitor.list_order.Goals as goal

pub returns-clause-explains : goal.returns-clause-explains
returns-clause-explains c =
    let m = c.self.inside.parts.value in
    subst (λ (l : Monitor). IfOk c.list_order.result (λ found. MatchOption found (¬ (l.setup.kind ≡ kinds.List))
    (λ order. (l.setup.kind ≡ kinds.List) × Explains order.items (records_before_fault_in l.setup l.log))))
    c.self.view_is
    (c.list_order.ensures (history_in m.setup (records_of m.setup m.log.items)) (rw c.deref.ensures c.self.invariant.history))

-- an order that explains records which hold makes their named sequence an RA-linearization for it
linearizes : (kind : Kind) (records : Records) (found : Option (global.Vec ℕ)) → Holds kind records
    → MatchOption found (¬ (kind ≡ kinds.List)) (λ order. (kind ≡ kinds.List) × Explains order.items records)
    → IfSome found (λ order. IsListLinearization order.items (must_precede records) records
    (named_sequence kinds.List records))
linearizes kind records None holds known = tt
linearizes kind records (Some order) holds (list, explains) =
    (order_decides_linearization order.items (must_precede records) records (named_sequence kinds.List records)
    (record { once = explains.once; all = λ x there. (explains.whole x).1 there })).1
    (subst (λ k. Holds k records) list holds, explains.extends)

pub returns-clause-linearizes : goal.returns-clause-linearizes
returns-clause-linearizes c =
    let m = c.args.self.now in
    let records = records_before_fault_in m.setup m.log in
    let holds = fault_none_implies_holds m.setup.kind records
    (records_before_fault_have_none-none m.setup.kind (records_of m.setup m.log)) in
    IfOk-weaker c.list_order.result _ _ (λ found known. linearizes m.setup.kind records found holds known)
    (returns-clause-explains c)
