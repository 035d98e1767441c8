use Rattle.std.proofs.Common.{◌≡◌, take}
use Rattle.std.specs.Prelude.{filter}
use Rattle.ra_explain.specs.Changes.{would_hold}
use Rattle.ra_explain.proofs.changes.changes_that_help.Given as goal

-- the changes so far that help are found
abbrev pub invariant-loop-change : goal.invariant-loop-change
invariant-loop-change l = l.found.items
    ≡ filter (λ change. would_hold l.setup l.log l.place change) (take l.change-index l.changes)
