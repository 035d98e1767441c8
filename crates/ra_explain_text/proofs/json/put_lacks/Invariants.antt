use Rattle.std.proofs.Common.{◌≡◌, ◌++◌, drop, true}
use Rattle.ra_explain_text.specs.Json.{lacks_members}
use Rattle.ra_explain_text.proofs.json.put_lacks.Given as goal

-- the members so far are written
abbrev pub invariant-loop-lack : goal.invariant-loop-lack
invariant-loop-lack l = l.out.items ++ lacks_members l.names l.is_first (drop l.lack-index l.lacks)
    ≡ l.initial.out.items ++ lacks_members l.names true l.lacks
