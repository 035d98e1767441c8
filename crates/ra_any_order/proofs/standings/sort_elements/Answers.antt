use Rattle.std.proofs.Common.{◌<◌, get_or, refl, sym, ap, subst, ◌∙◌}
use Rattle.std.specs.Prelude.{Contains}
use Rattle.std.specs.BTreeSet.{contains}
use Rattle.std.specs.Ordering.{nat_cmp}
use Rattle.ra_labels.specs.Lists.{rises}
use Rattle.ra_labels.proofs.Members.{none_there}
use Rattle.ra_precedence.specs.Lasts.{count_of}
use Rattle.ra_any_order.specs.declared.standings.Standing.TheVariants.{Listed, Undecided, Unasked}
use Rattle.ra_any_order.specs.Situation.{operations_in}
use Rattle.ra_any_order.specs.Standings.{IsStanding, HasStanding}
use Rattle.ra_any_order.proofs.SortedElements.{none_with, none_sorted, one_within, one_rising, one_sorted}
use Rattle.ra_any_order.proofs.standings.sort_elements.Goals as goal

pub loop-element-init : goal.loop-element-init
loop-element-init c =
    let solver = c.args.solver.now in
    let none = none_with c.no_elements-found.result c.no_elements-found.ensures in
    record {
      ready = c.requires.ready;
      count = refl;
      conditions = refl;
      within = λ standing x there. absurd (none_there x (subst (λ xs. Contains xs x) (none standing) there));
      rising = λ standing. ap rises (none standing);
      sorted = none_sorted (operations_in c.args.operations.now) (count_of solver) solver.conditions.items c.args.seen.now
          (contains nat_cmp c.args.asked.now) c.no_elements-found.result none;
    }

pub standing_of-requires-clause-below : goal.standing_of-requires-clause-below
standing_of-requires-clause-below c = λ b there.
    let x = get_or c.deref-element-items.result.now c.loop-element.element-index 0 in
    let (replica, low, at) = c.in_ok-newest.ensures.each b (subst (λ xs. Contains xs b) c.deref.ensures.value there) in
    subst (λ k. b < k) (sym c.loop-element.invariant.count) (c.requires.below x replica b at)

pub loop-element-preserved : goal.loop-element-preserved
loop-element-preserved c =
    let ops = operations_in c.args.operations.now in
    let solver = c.args.solver.now in
    let count = count_of solver in
    let conditions = solver.conditions.items in
    let seen = c.args.seen.now in
    let asked = contains nat_cmp c.args.asked.now in
    let xs = c.deref-element-items.result.now in
    let i = c.loop-element.element-index in
    let x = get_or xs i 0 in
    let within = c.loop-element-test.true in
    let standing = c.in_ok-standing.standing in
    let old = c.loop-element.found in
    let new = c.add.new.found in
    let is = c.in_ok-add.ensures in
    let so_far = c.loop-element.invariant in
    let newest = c.in_ok-newest.newest.items in
    let has : HasStanding ops count conditions seen asked x standing = (
      newest,
      c.in_ok-newest.ensures,
      subst (λ a. IsStanding ops count conditions newest a x standing) c.contains-is_asked.ensures
          (subst (λ ms. IsStanding ops count conditions ms c.contains-is_asked.result x standing) c.deref.ensures.value
          (subst (λ cs. IsStanding ops count cs c.deref.result.now c.contains-is_asked.result x standing) so_far.conditions
          (subst (λ k. IsStanding ops k c.loop-element.solver.conditions.items c.deref.result.now c.contains-is_asked.result x
          standing) so_far.count c.in_ok-standing.ensures.standing))),
    ) in
    record {
      ready = c.standing_of.ensures.ready;
      count = c.standing_of.ensures.count ∙ so_far.count;
      conditions = c.standing_of.ensures.conditions ∙ so_far.conditions;
      within = one_within ops count conditions seen asked xs i x within refl standing old new is so_far.within;
      rising = one_rising ops count conditions seen asked xs i x within refl standing old new is
          (ap rises c.deref-element-items.ensures.value ∙ c.requires.rising) so_far.within so_far.rising;
      sorted = one_sorted ops count conditions seen asked xs i x within refl standing old new is has so_far.sorted;
    }

pub returns-clause-rising : goal.returns-clause-rising
returns-clause-rising c =
    let rising = c.loop-element.invariant.rising in (rising Listed, rising Undecided, rising Unasked)
