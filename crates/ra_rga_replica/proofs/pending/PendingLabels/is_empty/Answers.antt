use Rattle.std.proofs.Common.{ℕ, List, subst, sym, ◌∙◌}
use Rattle.std.specs.Prelude.{Contains}
use Rattle.std.proofs.lemmas.Bool.{false≢true}
use Rattle.ra_rga_replica.specs.PendingLabels.{labels_under}
use Rattle.ra_rga_replica.proofs.Entries.{some_waits}
use Rattle.ra_rga_replica.proofs.pending.PendingLabels.is_empty.Goals as goal

pub returns-clause-some : goal.returns-clause-some
returns-clause-some c = λ not.
    subst (λ (w : List (ℕ × List ℕ)). (number : ℕ) × (label : ℕ) × Contains (labels_under w number) label)
    c.self.view_is
    (some_waits c.self.inside.under.entries (λ none. false≢true (sym not ∙ c.is_empty.ensures.1 none)) c.self.invariant)
