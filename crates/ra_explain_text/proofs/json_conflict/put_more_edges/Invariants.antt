use Rattle.std.proofs.Common.{◌≡◌, ◌++◌, drop}
use Rattle.ra_explain_text.specs.Json.{more_edges}
use Rattle.ra_explain_text.proofs.json_conflict.put_more_edges.Given as goal

-- the edges so far are written
abbrev pub invariant-loop-edge : goal.invariant-loop-edge
invariant-loop-edge l = l.out.items ++ more_edges l.places (drop l.edge-index l.edges)
    ≡ l.initial.out.items ++ more_edges l.places l.edges
