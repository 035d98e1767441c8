use Rattle.std.proofs.Common.{◌≡◌, ◌++◌, drop}
use Rattle.ra_explain_text.specs.Json.{more_changes}
use Rattle.ra_explain_text.proofs.json.put_more_changes.Given as goal

-- the changes so far are written
abbrev pub invariant-loop-change : goal.invariant-loop-change
invariant-loop-change l = l.out.items ++ more_changes (drop l.change-index l.changes)
    ≡ l.initial.out.items ++ more_changes l.changes
