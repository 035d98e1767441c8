use Rattle.std.proofs.Common.{◌≡◌, ◌++◌, drop}
use Rattle.ra_explain_text.specs.Lacks.{lack_rows}
use Rattle.ra_explain_text.proofs.pass.put_lacks.Given as goal

-- the rows so far are written
abbrev pub invariant-loop-lack : goal.invariant-loop-lack
invariant-loop-lack l =
    l.out.items ++ lack_rows l.view.names.now l.view.explanation.now (drop l.lack-index l.lacks)
    ≡ l.initial.out.items ++ lack_rows l.view.names.now l.view.explanation.now l.lacks
