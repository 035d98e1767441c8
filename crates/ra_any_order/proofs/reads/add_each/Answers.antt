use Rattle.std.proofs.Common.{[], refl, sym, ◌∙◌, get_or}
use Rattle.std.specs.BTreeSet.{contains}
use Rattle.std.specs.Ordering.{nat_cmp}
use Rattle.std.proofs.lemmas.List.{append-nil}
use Rattle.ra_any_order.specs.Situation.{operations_in}
use Rattle.ra_any_order.proofs.AddedElements.{none_added, more_added, all_added}
use Rattle.ra_any_order.proofs.reads.add_each.Goals as goal

pub loop-element-init : goal.loop-element-init
loop-element-init c = (
  [],
  sym (append-nil c.args.conditions.now.items),
  none_added (operations_in c.args.operations.now) c.args.newest.now c.args.replicas (contains nat_cmp c.args.listed.now),
)

pub loop-element-preserved : goal.loop-element-preserved
loop-element-preserved c =
    let x = get_or c.args.elements.now c.loop-element.element-index 0 in
    more_added (operations_in c.args.operations.now) c.args.newest.now c.args.replicas (contains nat_cmp c.args.listed.now)
    c.args.elements.now c.loop-element.element-index x c.loop-element-test.true refl c.in_ok-newest.newest.items
    c.in_ok-newest.ensures c.deref.result.now c.deref.ensures.value c.contains-is_listed.result c.contains-is_listed.ensures
    c.args.conditions.now.items c.loop-element.conditions.items c.add_one.new.conditions.items c.loop-element.invariant
    c.in_ok-add_one.ensures.added (sym c.in_ok-add_one.ensures.possible ∙ c.if-not-branch.false)

pub returns : goal.returns
returns c =
    all_added (operations_in c.args.operations.now) c.args.newest.now c.args.replicas (contains nat_cmp c.args.listed.now)
    c.args.elements.now c.loop-element.element-index c.loop-element-test.false c.args.conditions.now.items
    c.loop-element.conditions.items c.loop-element.invariant
