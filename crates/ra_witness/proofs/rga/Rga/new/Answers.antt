use Rattle.std.proofs.Common.{◌≡◌, [], ◌∷◌, length, length-append, sym, ap, subst, arith}
use Rattle.ra_rga_elements.specs.ElementList.{root}
use Rattle.ra_rga_replica.specs.Edits.{AreElementsOf}
use Rattle.ra_witness.proofs.ReplicaLists.{AreListsOf, lists_pushed}
use Rattle.ra_witness.proofs.AllElements.{no_elements}
use Rattle.ra_witness.proofs.rga.Rga.new.Goals as goal

pub loop-preserved : goal.loop-preserved
loop-preserved c =
    let lists = c.loop.lists.items in
    let new = c.in_ok-new.field-0 in
    let pushed = c.in_ok-push.ensures.items in
    record {
      count = omega (arith, ap length pushed, length-append lists (new ∷ []), c.loop.invariant.count);
      lists = subst (λ ls. AreListsOf ls (root ∷ []) [] []) (sym pushed) (lists_pushed lists new (root ∷ []) [] [] c.loop.invariant.lists c.in_ok-new.ensures);
    }

pub returns : goal.returns
returns c =
    let all = c.in_ok-new-2.field-0 in
    let lists = c.loop.lists.items in
    let none : c.new-2.result.items ≡ [] = c.new-2.ensures.items in
    let one = c.in_ok-new-2.ensures.arrivals in
    record {
      elements = subst (λ ds. AreElementsOf all ds []) (sym none) (no_elements all c.in_ok-new-2.ensures.elements one);
      replicas = omega (arith, c.loop.invariant.count);
      lists = subst (λ ds. AreListsOf lists all.arrivals ds []) (sym none) (subst (λ rs. AreListsOf lists rs [] []) (sym one) c.loop.invariant.lists);
      few = omega (arith, ap length one);
    }
