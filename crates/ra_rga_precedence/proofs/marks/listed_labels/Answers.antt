use Rattle.std.proofs.Common.{◌≡◌, ◌+◌, ◌∷◌, [], Some, true, length, length-append, get_or, set, sym, ap, subst, ◌∙◌, arith}
use Rattle.std.specs.Ordering.{nat_cmp}
use Rattle.std.specs.BTreeMap.{get}
use Rattle.std.proofs.lemmas.List.{length-set}
use Rattle.ra_rga_precedence.specs.Marks.{shown_label, AreShown}
use Rattle.ra_rga_precedence.proofs.Marking.{shown_parts, shown_more}
use Rattle.ra_rga_precedence.proofs.marks.listed_labels.Goals as goal

pub loop-element-preserved : goal.loop-element-preserved
loop-element-preserved c =
    let l = c.loop-element in
    let k = c.in-Some.label in
    let inserter = get nat_cmp c.args.inserters.now in
    let seen = c.args.seen.now in
    let marks = c.args.marks.now.items in
    let list = c.args.list.now in
    let labels = l.labels.items in
    let kept = l.invariant in
    let wide = kept.wide in
    let shown = ap (λ ms. shown_label inserter seen ms (get_or list l.element-index 0)) (sym c.deref.ensures.value)
    ∙ sym c.shown_label.ensures ∙ c.in-Some.is in
    let low = c.requires (get_or list l.element-index 0) k (shown_parts inserter seen l.marks.items
    (get_or list l.element-index 0) k shown).0 in
    let items = c.in_ok-push-in-Some.ensures.items in
    record {
      len = ap length items ∙ length-append labels (k ∷ []) ∙ ap (λ j. j + 1) kept.len;
      wide = length-set l.marks.items k true ∙ wide;
      are = subst (λ ls. AreShown inserter seen marks list ls (set l.marks.items k true)) (sym items)
          (shown_more inserter seen marks list labels l.marks.items kept.are k
          (subst (λ i. shown_label inserter seen l.marks.items (get_or list i 0) ≡ Some k) (sym kept.len) shown)
          (omega (arith, low, wide)));
    }
