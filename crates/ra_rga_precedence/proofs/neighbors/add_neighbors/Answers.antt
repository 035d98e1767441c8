use Rattle.std.proofs.Common.{◌+◌, ◌<◌, length, get_or, sym, ap, subst, ◌∙◌, arith}
use Rattle.std.proofs.lemmas.List.Elements.{Contains-get_or}
use Rattle.ra_rga_precedence.specs.Relations.{IsRelation}
use Rattle.ra_rga_precedence.specs.Neighbors.{AreEdges}
use Rattle.ra_rga_precedence.proofs.NeighborLists.{neighbors_above, neighbors_apart, neighbors_all}
use Rattle.ra_rga_precedence.proofs.neighbors.add_neighbors.Goals.{in-Above, in-Apart+in_ok-condition-in-Apart+in_ok-push-in-Apart}
use Rattle.ra_rga_precedence.proofs.neighbors.add_neighbors.Goals as goal

pub relation_of-requires-clause-first : goal.relation_of-requires-clause-first
relation_of-requires-clause-first c =
    let i = c.loop-place.place in
    let labels = c.args.labels.now in
    let test = c.loop-place-test.true in
    let end = c.saturating_sub-place-end.ensures in
    c.requires.labels (get_or labels i 0) (Contains-get_or labels i 0 (omega (arith, test, end)))

pub relation_of-requires-clause-second : goal.relation_of-requires-clause-second
relation_of-requires-clause-second c =
    let i = c.loop-place.place in
    let labels = c.args.labels.now in
    let test = c.loop-place-test.true in
    let end = c.saturating_sub-place-end.ensures in
    c.requires.labels (get_or labels (i + 1) 0) (Contains-get_or labels (i + 1) 0 (omega (arith, test, end)))

pub loop-place-preserved : goal.loop-place-preserved
loop-place-preserved c =
    let i = c.loop-place.place in
    let labels = c.args.labels.now in
    let needed = c.args.needed.now in
    let old = c.args.conditions.now.items in
    let new = c.loop-place.conditions.items in
    let test = c.loop-place-test.true in
    let end = c.saturating_sub-place-end.ensures in
    let within : i + 1 < length labels = omega (arith, test, end) in
    elim c.match-relation_of.branch [
      | in-Above w ↦
          subst (λ cs. AreEdges needed labels old cs (i + 1)) (sym (ap (λ v. v.items) w.conditions-is))
          (neighbors_above needed labels old new i c.loop-place.invariant
          (subst (IsRelation needed (get_or labels i 0) (get_or labels (i + 1) 0)) w.in-Above.is c.relation_of.ensures))
      | in-Apart+in_ok-condition-in-Apart+in_ok-push-in-Apart w ↦
          let items = ap (λ v. v.items) w.conditions-is ∙ w.in_ok-push-in-Apart.ensures.items in
          subst (λ cs. AreEdges needed labels old cs (i + 1)) (sym items)
          (neighbors_apart needed labels old new i c.loop-place.invariant w.in-Apart.left w.in-Apart.right within
          (subst (IsRelation needed (get_or labels i 0) (get_or labels (i + 1) 0)) w.in-Apart.is c.relation_of.ensures)
          w.in_ok-condition-in-Apart.condition w.in_ok-condition-in-Apart.ensures)
    ]

pub returns : goal.returns
returns c =
    let test = c.loop-place-test.false in
    let end = c.saturating_sub-place-end.ensures in
    neighbors_all c.args.needed.now c.args.labels.now c.args.conditions.now.items c.loop-place.conditions.items
    c.loop-place.place (λ i within. omega (arith, test, end, within)) c.loop-place.invariant
