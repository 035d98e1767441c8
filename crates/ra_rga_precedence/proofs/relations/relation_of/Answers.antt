use Rattle.std.proofs.Common.{sym, subst, arith}
use Rattle.ra_rga_precedence.specs.Relations.{IsRelation}
use Rattle.ra_rga_precedence.proofs.Climbing.{AreClimbing, climb_upper, climb_lower, meet, same_option, other_option}
use Rattle.ra_rga_precedence.proofs.relations.relation_of.Goals as goal

pub loop-upper-preserved-then-rank_of : goal.loop-upper-preserved-then-rank_of
loop-upper-preserved-then-rank_of c =
    let l = c.loop-upper in
    let needed = c.args.needed.now in
    let ranks = c.args.ranks.now in
    let one = c.rank_of.ensures in
    let other = c.rank_of-in-loop-upper.ensures in
    let test = c.if-rank_of.true in
    subst (λ o. AreClimbing needed ranks c.args.first c.args.second l.upper l.right o l.lower) (sym c.next_up-upper.ensures)
    (climb_upper needed ranks c.requires.below c.requires.ranks c.args.first c.args.second l.left l.right l.upper l.lower
    l.invariant (omega (arith, one, other, test)))

pub loop-upper-preserved : goal.loop-upper-preserved
loop-upper-preserved c =
    let l = c.loop-upper in
    let needed = c.args.needed.now in
    let ranks = c.args.ranks.now in
    let one = c.rank_of.ensures in
    let other = c.rank_of-in-loop-upper.ensures in
    let test = c.if-rank_of.false in
    subst (λ o. AreClimbing needed ranks c.args.first c.args.second l.left l.lower l.upper o) (sym c.next_up-lower.ensures)
    (climb_lower needed ranks c.requires.below c.requires.ranks c.args.first c.args.second l.left l.right l.upper l.lower
    l.invariant (omega (arith, one, other, test)) (other_option l.upper l.lower c.loop-upper-test.ensures))

pub returns : goal.returns
returns c =
    let l = c.loop-upper in
    let needed = c.args.needed.now in
    let ranks = c.args.ranks.now in
    subst (IsRelation needed c.args.first c.args.second) (sym c.relation_between.ensures)
    (meet needed ranks c.requires.below c.requires.ranks c.args.first c.args.second l.left l.right l.upper l.lower
    l.invariant (same_option l.upper l.lower c.loop-upper-test.ensures))
