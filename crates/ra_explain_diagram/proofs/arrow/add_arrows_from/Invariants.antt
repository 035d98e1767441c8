use Rattle.std.proofs.Common.{◌≡◌, ◌++◌, drop}
use Rattle.std.specs.Prelude.{flat_map}
use Rattle.ra_explain_diagram.specs.Arrows.{arrow_after, arrows_after}
use Rattle.ra_explain_diagram.proofs.arrow.add_arrows_from.Given as goal

-- with the arrows to the labels that are left, the arrows so far are those to all labels
abbrev pub invariant-loop-after : goal.invariant-loop-after
invariant-loop-after l =
    l.found.items ++ flat_map (arrow_after l.shown.places.now l.shown.asked l.shown.rows.now l.claim l.from)
    (drop l.after-index l.claim.after.items)
    ≡ l.initial.found.items ++ arrows_after l.shown.places.now l.shown.asked l.shown.rows.now l.claim l.from
