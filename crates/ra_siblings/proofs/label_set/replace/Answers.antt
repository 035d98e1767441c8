use Rattle.std.proofs.Common.{◌≡◌, ℕ, true, filter, sym, ap, ◌∙◌, subst, inl, inr}
use Rattle.std.specs.Prelude.{not, insert, Contains}
use Rattle.ra_labels.specs.Lists.{is_among, rises}
use Rattle.ra_labels.proofs.Ranges.{filter_rises}
use Rattle.ra_siblings.proofs.KeptLabels.{left_exactly, inserted_exactly, inserted_rises}
use Rattle.ra_siblings.proofs.label_set.replace.Goals as goal

pub returns-clause-rising : goal.returns-clause-rising
returns-clause-rising c =
    let labels = c.args.labels.now in
    let others = c.args.replaced.now in
    let slice = c.deref.result.now in
    let index = c.first_at_least-index.result in
    let label = c.args.label in
    let test = λ (k : ℕ). not (is_among k others) in
    let is : slice ≡ filter test labels = c.deref.ensures.value ∙ c.in_ok-kept.ensures in
    let now : c.insert.new.self.items ≡ insert slice index label =
    c.in_ok-insert.ensures.items ∙ ap (λ xs. insert xs index label) (sym c.deref.ensures.value) in
    ap rises now ∙ inserted_rises slice index label (ap rises is ∙ filter_rises test labels c.requires.rising)
    (λ there. c.requires.new ((left_exactly labels others label).0 (subst (λ xs. Contains xs label) is there)).0)
    c.first_at_least-index.ensures.within.1 c.first_at_least-index.ensures.below c.first_at_least-index.ensures.at

pub returns-clause-members : goal.returns-clause-members
returns-clause-members c = λ m.
    let labels = c.args.labels.now in
    let others = c.args.replaced.now in
    let kept = c.in_ok-kept.kept.items in
    let index = c.first_at_least-index.result in
    let label = c.args.label in
    let is : kept ≡ filter (λ k. not (is_among k others)) labels = c.in_ok-kept.ensures in
    let now : c.insert.new.self.items ≡ insert kept index label = c.in_ok-insert.ensures.items in (
      (λ there. elim ((inserted_exactly kept index label m).0 (subst (λ xs. Contains xs m) now there)) [
        | inl here ↦ inl here
        | inr further ↦ inr ((left_exactly labels others m).0 (subst (λ xs. Contains xs m) is further))
      ]),
      (λ either. subst (λ xs. Contains xs m) (sym now) ((inserted_exactly kept index label m).1 (elim either [
        | inl here ↦ inl here
        | inr left ↦ inr (subst (λ xs. Contains xs m) (sym is) ((left_exactly labels others m).1 left))
      ]))),
    )
