-- Lemmas on failures, with a cycle or without.
use Rattle.std.proofs.Common.{◌≡◌, Some, None, sym, subst}
use Rattle.std.specs.Global as global
use Rattle.ra_labels.specs.declared.edge.Edge.{Edge}
use Rattle.ra_labels.specs.declared.kind.Kind.{Kind}
use Rattle.ra_labels.specs.declared.kind.Kind.TheVariants as kinds
use Rattle.ra_labels.specs.declared.reply.Cause.TheVariants as cause
use Rattle.ra_labels.specs.Records.{Records}
use Rattle.ra_witness.specs.declared.failure.Failure.{Failure}
use Rattle.ra_witness.specs.Failure.{IsCycleIn, ShowsCycle}

module _ (kind : Kind) (records : Records) (failure : Failure) where
  -- a failure without a cycle, which is none for the order of a list
  pub shown_by_none : failure.cycle ≡ None → (kind ≡ kinds.List → ¬ (failure.cause ≡ cause.Order))
      → ShowsCycle kind records failure.cause failure.cycle
  shown_by_none none never = subst (ShowsCycle kind records failure.cause) (sym none) never

  -- a failure with a cycle
  pub shown_by_it : (cycle : global.Vec Edge) → failure.cause ≡ cause.Order → failure.cycle ≡ Some cycle
      → IsCycleIn kind records cycle.items → ShowsCycle kind records failure.cause failure.cycle
  shown_by_it cycle order some closed = subst (ShowsCycle kind records failure.cause) (sym some) (order, closed)
