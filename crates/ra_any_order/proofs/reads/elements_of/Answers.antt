use Rattle.std.proofs.Common.{sym, ap, ◌∙◌, inl, inr}
use Rattle.ra_labels.specs.Lists.{is_among}
use Rattle.ra_any_order.specs.Situation.{operations_in}
use Rattle.ra_any_order.proofs.AddedElements.{changed_checked, flips_checked, found_wider}
use Rattle.ra_any_order.proofs.FoundChanges.{changes_of}
use Rattle.ra_any_order.proofs.reads.elements_of.Goals as goal

pub returns-clause-found : goal.returns-clause-found
returns-clause-found c = λ past stands previous view.
    let changed = c.in_ok-elements.elements.items in
    found_wider past.records (operations_in c.args.operations.now) c.args.view.now.last c.args.label
    c.find_changes.new.view.newest changed c.push_others-2.new.found.items
    (changed_checked c.args.listed.now c.in_ok-set_of.field-0 c.list_of.result.now c.list_of-last.result.now changed
    c.push_others.new.found.items c.push_others-2.new.found.items c.in_ok-push_others.ensures c.in_ok-push_others-2.ensures)
    (c.in_ok-elements.ensures.found past (changes_of c.args.tracker.now.now (operations_in c.args.operations.now) past stands)
    previous view)

pub returns-clause-listed : goal.returns-clause-listed
returns-clause-listed c = λ x.
    elim (flips_checked c.args.listed.now c.in_ok-set_of.field-0 c.list_of.result.now c.list_of-last.result.now
    c.in_ok-elements.elements.items c.push_others.new.found.items c.push_others-2.new.found.items
    c.in_ok-push_others.ensures c.in_ok-push_others-2.ensures c.in_ok-set_of.ensures
    (λ y. c.requires.listed y ∙ ap (is_among y) (sym c.list_of.ensures)) x) [
      | inl there ↦ inl there
      | inr same ↦ inr (same ∙ ap (is_among x) c.list_of-last.ensures)
    ]
