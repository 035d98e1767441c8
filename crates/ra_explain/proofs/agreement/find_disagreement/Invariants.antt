use Rattle.std.proofs.Common.{ℕ, ◌<◌}
use Rattle.ra_explain.specs.Agreement.{NeverDisagree, shown_at}
use Rattle.ra_explain.proofs.agreement.find_disagreement.Given as goal

-- no label so far shows two elements the other way round
abbrev pub invariant-loop-other : goal.invariant-loop-other
invariant-loop-other l = (m : ℕ) → m < l.other → NeverDisagree (shown_at l.log l.places m) (shown_at l.log l.places l.label)
