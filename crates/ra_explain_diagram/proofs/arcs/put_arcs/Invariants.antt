use Rattle.std.proofs.Common.{◌≡◌, ◌++◌, drop}
use Rattle.ra_explain_diagram.specs.Arcs.{arcs_of}
use Rattle.ra_explain_diagram.proofs.arcs.put_arcs.Given as goal

-- the arcs so far are written
abbrev pub invariant-loop-arrow : goal.invariant-loop-arrow
invariant-loop-arrow l = l.out.items ++ arcs_of l.places (drop l.arrow-index l.arrows)
    ≡ l.initial.out.items ++ arcs_of l.places l.arrows
