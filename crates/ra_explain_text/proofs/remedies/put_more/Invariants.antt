use Rattle.std.proofs.Common.{◌≡◌, ◌++◌, drop}
use Rattle.ra_explain_text.specs.Words.{more_remedies}
use Rattle.ra_explain_text.proofs.remedies.put_more.Given as goal

-- the remedies so far are written
abbrev pub invariant-loop-change : goal.invariant-loop-change
invariant-loop-change l =
    l.out.items ++ more_remedies l.view.names.now l.view.explanation.now l.violation (drop l.change-index l.changes)
    ≡ l.initial.out.items ++ more_remedies l.view.names.now l.view.explanation.now l.violation l.changes
