use Rattle.std.proofs.Common.{◌≡◌, subst, sym, ◌∙◌}
use Rattle.std.specs.Prelude.{All, Contains}
use Rattle.std.specs.BTreeSet.{contains}
use Rattle.std.specs.Ordering.{nat_cmp}
use Rattle.std.proofs.lemmas.Bool.{not-true}
use Rattle.std.proofs.lemmas.List.Elements.{All-push}
use Rattle.ra_labels.specs.Edges.{IsChain}
use Rattle.ra_labels.specs.TheoremTerms.{HasNoDuplicates}
use Rattle.ra_explain.specs.Conflicts.{starts_of}
use Rattle.ra_explain.proofs.Conflicts.{ArePassed, chain_push, closed, found_there, passes_once, passed_more}
use Rattle.ra_explain.proofs.cycle.closed_walk.Goals as goal

pub loop-number-preserved : goal.loop-number-preserved
loop-number-preserved c =
    let l = c.loop-number in
    let edge = c.in-Some.edge.now in
    record {
      chain = subst (λ es. IsChain c.args.start es edge.after) (sym c.in_ok-push-in-Some.ensures.items)
          (chain_push c.args.start l.at l.walk.items edge l.invariant.chain c.if-edge-at.true);
      among = subst (All (Contains c.args.edges.now)) (sym c.in_ok-push-in-Some.ensures.items)
          (All-push (Contains c.args.edges.now) l.walk.items edge l.invariant.among
          (found_there c.args.edges.now _ edge c.in-Some.ensures.lookup.0 c.in-Some.ensures.lookup.1));
      passed = subst (ArePassed c.insert.new.self) (sym c.in_ok-push-in-Some.ensures.items)
          (passed_more l.passed c.insert.new.self l.walk.items edge l.at c.if-edge-at.true
          c.in_ok-insert-in-Some.ensures.updates l.invariant.passed);
      once = subst (λ es. HasNoDuplicates (starts_of es)) (sym c.in_ok-push-in-Some.ensures.items)
          (passes_once l.passed l.walk.items edge l.at c.if-edge-at.true
          (not-true (contains nat_cmp l.passed l.at) (sym (sym c.if-not-branch.false ∙ c.in_ok-insert-in-Some.ensures.added)))
          l.invariant.passed l.invariant.once);
    }

pub returns-then-at-start : goal.returns-then-at-start
returns-then-at-start c =
    let l = c.loop-number in
    closed c.args.edges.now l.walk.items c.args.start l.at l.invariant.chain c.if-at-start.true l.invariant.among l.invariant.once
