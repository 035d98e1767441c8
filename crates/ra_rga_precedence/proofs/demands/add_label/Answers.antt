use Rattle.std.proofs.Common.{refl, sym, subst}
use Rattle.std.specs.Prelude.{option_map}
use Rattle.std.specs.Ordering.{nat_cmp}
use Rattle.std.specs.BTreeMap.{get}
use Rattle.ra_visibility.specs.Tracked.{labels_in}
use Rattle.ra_rga_precedence.specs.Situation.{operations_in}
use Rattle.ra_rga_precedence.specs.Reads.{IsChecked}
use Rattle.ra_rga_precedence.specs.Answers.{IsReason, IsStep, refutation_of}
use Rattle.ra_rga_precedence.proofs.ReadSteps.{label_step, other_step, named_edges}
use Rattle.ra_rga_precedence.proofs.demands.add_label.Goals as goal

pub returns-in-Some-2-clause-step : goal.returns-in-Some-2-clause-step
returns-in-Some-2-clause-step c = λ past stands.
    let n = c.args.label in
    let tracked = c.args.tracker.now.now in
    let operations = operations_in c.args.operations.now in
    let inserter = get nat_cmp c.args.insertions.now.inserters in
    let needed = c.args.insertions.now.needed.items in
    let ranks = c.args.insertions.now.ranks.items in
    let old = c.args.conditions.now.items in
    let new = c.add_read.new.conditions.items in
    subst (IsReason past.records) (sym c.refutation_of.ensures)
    (subst (λ o. IsStep past.records n old new (option_map (refutation_of n) o)) c.in-Some-2.is
    (label_step tracked operations past stands inserter needed ranks c.requires.are n c.requires.label c.vis-seen.result
    c.vis-seen.ensures.seen c.in-Some.list.now c.in-Some.ensures (labels_in tracked) refl old new
    c.in_ok-fault-in-Some.field-0 c.in_ok-fault-in-Some.ensures.checked))

pub returns-in-None-2-clause-named : goal.returns-in-None-2-clause-named
returns-in-None-2-clause-named c = λ none named.
    let tracked = c.args.tracker.now.now in
    let operations = operations_in c.args.operations.now in
    let inserter = get nat_cmp c.args.insertions.now.inserters in
    let needed = c.args.insertions.now.needed.items in
    let ranks = c.args.insertions.now.ranks.items in
    let old = c.args.conditions.now.items in
    let new = c.add_read.new.conditions.items in
    let list = c.in-Some.list.now in
    let seen = c.vis-seen.result in
    named_edges operations (labels_in tracked) inserter needed ranks c.requires.are seen list old new
    (subst (IsChecked operations (labels_in tracked) inserter needed seen list old new) c.in-None-2.is
    c.in_ok-fault-in-Some.ensures.checked) named

pub returns-in-None-2-clause-step : goal.returns-in-None-2-clause-step
returns-in-None-2-clause-step c = λ past stands.
    let n = c.args.label in
    let tracked = c.args.tracker.now.now in
    let operations = operations_in c.args.operations.now in
    let inserter = get nat_cmp c.args.insertions.now.inserters in
    let needed = c.args.insertions.now.needed.items in
    let ranks = c.args.insertions.now.ranks.items in
    let old = c.args.conditions.now.items in
    let new = c.add_read.new.conditions.items in
    subst (λ o. IsStep past.records n old new (option_map (refutation_of n) o)) c.in-None-2.is
    (label_step tracked operations past stands inserter needed ranks c.requires.are n c.requires.label c.vis-seen.result
    c.vis-seen.ensures.seen c.in-Some.list.now c.in-Some.ensures (labels_in tracked) refl old new
    c.in_ok-fault-in-Some.field-0 c.in_ok-fault-in-Some.ensures.checked)

pub returns-in-None-clause-step : goal.returns-in-None-clause-step
returns-in-None-clause-step c = λ past stands.
    other_step c.args.tracker.now.now (operations_in c.args.operations.now) past stands c.args.label c.in-None.ensures
    c.args.conditions.now.items
