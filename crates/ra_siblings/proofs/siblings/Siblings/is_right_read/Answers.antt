use Rattle.std.proofs.Common.{◌≡◌, sym, ap, ◌∙◌}
use Rattle.std.specs.Prelude.{nat_eq}
use Rattle.std.specs.Cmp.Lexicographic.{pointwise}
use Rattle.ra_siblings.specs.Kept.{siblings_of, values_of}
use Rattle.ra_siblings.proofs.SortedValues.{same_as_once}
use Rattle.ra_siblings.proofs.siblings.Siblings.is_right_read.Goals as goal

pub returns : goal.returns
returns c =
    let kept = c.args.self.now in
    let list = c.args.list.now in
    c.eq.ensures ∙ ap (λ xs. pointwise nat_eq xs list) c.as_slice.ensures.value
    ∙ same_as_once list c.in_ok-values.values.items (values_of kept (siblings_of kept c.args.replica))
    c.in_ok-values.ensures.rising c.in_ok-values.ensures.values
