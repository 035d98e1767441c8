use Rattle.std.proofs.Common.{◌≡◌, true, eqb, sym, ap, ◌∙◌, subst}
use Rattle.std.specs.List.{dedup}
use Rattle.std.proofs.lemmas.List.Filters.{dedup_is}
use Rattle.ra_labels.specs.Lists.{have_same_elements, rises}
use Rattle.ra_siblings.specs.Kept.{siblings_of, values_of}
use Rattle.ra_siblings.proofs.SortedValues.{once_rises, once_same}
use Rattle.ra_siblings.proofs.siblings.Siblings.values.Goals as goal

pub returns-clause-rising : goal.returns-clause-rising
returns-clause-rising c =
    let sorted = c.sort_unstable.new.self.items in
    let once : c.dedup.new.self.items ≡ dedup eqb sorted = dedup_is eqb sorted c.dedup.new.self.items c.dedup.ensures.filtered in
    ap rises once ∙ once_rises sorted c.sort_unstable.ensures.sorted

pub returns-clause-values : goal.returns-clause-values
returns-clause-values c =
    let sorted = c.sort_unstable.new.self.items in
    let written = c.in_ok-values.values.items in
    let kept = c.args.self.now in
    let once : c.dedup.new.self.items ≡ dedup eqb sorted = dedup_is eqb sorted c.dedup.new.self.items c.dedup.ensures.filtered in
    let all : written ≡ values_of kept (siblings_of kept c.args.replica) =
    c.in_ok-values.ensures ∙ ap (values_of kept) c.labels.ensures in
    subst (λ xs. have_same_elements c.dedup.new.self.items xs ≡ true) all
    (ap (λ ys. have_same_elements ys written) once ∙ once_same written sorted c.sort_unstable.ensures.permutation)
