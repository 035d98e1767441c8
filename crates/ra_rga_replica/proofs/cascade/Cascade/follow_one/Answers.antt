use Rattle.std.proofs.Common.{◌≡◌, ◌++◌, ◌∷◌, [], ◌∙◌, sym, ap, List, ℕ, subst, rules}
use Rattle.std.specs.Prelude.{IsPermutation}
use Rattle.ra_rga_replica.specs.declared.edit.Edit.TheVariants.{PutsIn}
use Rattle.ra_rga_replica.specs.Cascade.{shown_with, shown_after}
use Rattle.ra_rga_replica.proofs.Followers.{insertion_follows, removal_follows, some_follows, edit_found, one_more_shown}
use Rattle.ra_rga_replica.proofs.cascade.Cascade.follow_one.Goals as goal

pub returns-in_ok-add_sorted-in-Some-PutsIn-clause-followed : goal.returns-in_ok-add_sorted-in-Some-PutsIn-clause-followed
returns-in_ok-add_sorted-in-Some-PutsIn-clause-followed c = λ shows all records had settled first amidst.
    let number = c.in-Some-PutsIn.number in
    let edits = c.args.edits.now in
    let labels = c.args.self.now.labels.items in
    let is = edit_found edits c.args.label c.edit_of.result c.in-Some-PutsIn.field-0 (PutsIn number)
    c.edit_of.ensures c.in-Some-PutsIn.is c.in-Some-PutsIn.field-0-is in
    let (more, shuffled, grown) = c.in_ok-add_sorted-in-Some-PutsIn.ensures in
    let pushed : c.push.new.self.items ≡ labels ++ c.args.label ∷ [] = search rules in
    insertion_follows c.args.self.now.ready.items c.args.label (shown_after edits shows c.push.new.self.items)
    c.put_new.new.self.marks.items c.push.new.self.items c.add_sorted.new.ready.items more number amidst is
    (λ k. one_more_shown edits shows labels c.push.new.self.items c.args.label k pushed
    ∙ ap (λ edit. shown_with edit (shown_after edits shows labels) k) is)
    c.in_ok-put_new-in-Some-PutsIn.ensures.marks pushed
    (subst (λ (ls : List ℕ). IsPermutation ls more) c.under.ensures shuffled) grown

pub returns-in-Some-Removes-clause-followed : goal.returns-in-Some-Removes-clause-followed
returns-in-Some-Removes-clause-followed c = λ shows all records had settled first amidst.
    let edits = c.args.edits.now in
    let labels = c.args.self.now.labels.items in
    let is = edit_found edits c.args.label c.edit_of.result c.in-Some-Removes.field-0 _
    c.edit_of.ensures c.in-Some-Removes.is c.in-Some-Removes.field-0-is in
    let pushed : c.push.new.self.items ≡ labels ++ c.args.label ∷ [] = search rules in
    removal_follows c.args.self.now.ready.items c.args.label (shown_after edits shows c.push.new.self.items)
    c.push.new.self.items _ amidst is
    (λ k. one_more_shown edits shows labels c.push.new.self.items c.args.label k pushed
    ∙ ap (λ edit. shown_with edit (shown_after edits shows labels) k) is)
    pushed

pub returns-in-None-clause-followed : goal.returns-in-None-clause-followed
returns-in-None-clause-followed c = λ shows all records had settled first amidst.
    absurd (some_follows c.args.self.now.ready.items c.args.label amidst (sym c.in-None.is ∙ c.edit_of.ensures))
