-- The cycle that is kept beside the fault, as callers see it.
use Rattle.std.proofs.Common.{◌≡◌, ℕ, Option, Some, None, sym, ap, ◌∙◌}
use Rattle.std.specs.Prelude.{MatchOption}
use Rattle.std.specs.Global as global
use Rattle.std.proofs.lemmas.Option.{none-some}
use Rattle.ra_labels.specs.declared.edge.Edge.{Edge}
use Rattle.ra_labels.specs.declared.kind.Kind.{Kind}
use Rattle.ra_labels.specs.declared.kind.Kind.TheVariants as kinds
use Rattle.ra_labels.specs.declared.reply.Cause.TheVariants.{Order}
use Rattle.ra_labels.specs.declared.reply.Fault.{Fault}
use Rattle.ra_labels.specs.Edges.{IsCycle}
use Rattle.ra_labels.specs.Fault.{fault_of, fault_at}
use Rattle.ra_labels.specs.ListHistory.{required_edges}
use Rattle.ra_labels.specs.Records.{Records}
use Rattle.ra_monitor.specs.History.{KeepsCycle}

module _ (kind : Kind) (records : Records) where
  abbrev IsOrder : Type 0
  IsOrder = (kind ≡ kinds.List) × (label : ℕ) × (fault_of kind records ≡ Some (fault_at label Order))

  same_fault : (fault : Fault) (label : ℕ) → Some fault ≡ Some (fault_at label Order) → fault.cause ≡ Order
  same_fault fault label is = let same : fault ≡ fault_at label Order = cc in ap (λ (f : Fault). f.cause) same

  at_its_label : (fault : Fault) → fault.cause ≡ Order → fault ≡ fault_at fault.label Order
  at_its_label fault is = ap (fault_at fault.label) is

  pub cycle_shown : (fault : Option Fault) (found : Option (global.Vec Edge)) → fault ≡ fault_of kind records
      → KeepsCycle kind records fault found
      → MatchOption found (¬ IsOrder) (λ cycle. IsOrder × IsCycle (required_edges records) cycle.items)
  cycle_shown None None is kept = λ at. none-some _ (is ∙ at.2)
  cycle_shown None (Some cycle) is kept = absurd (none-some cycle (sym kept))
  cycle_shown (Some fault) None is kept = λ at. kept at.0 (same_fault fault at.1 (is ∙ at.2))
  cycle_shown (Some fault) (Some cycle) is kept =
      ((kept.1.0, fault.label, sym is ∙ ap Some (at_its_label fault kept.0)), kept.1.1)
