use Rattle.std.proofs.Common.{◌≡◌, ◌++◌, drop}
use Rattle.ra_explain_text.specs.Json.{more_lines}
use Rattle.ra_explain_text.proofs.json.put_more_lines.Given as goal

-- the places so far are written
abbrev pub invariant-loop-place : goal.invariant-loop-place
invariant-loop-place l = l.out.items ++ more_lines (drop l.place-index l.places)
    ≡ l.initial.out.items ++ more_lines l.places
