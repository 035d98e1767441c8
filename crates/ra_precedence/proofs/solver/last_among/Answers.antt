use Rattle.std.proofs.Common.{◌∙◌, length, get_or, sym, ap, subst, arith}
use Rattle.std.proofs.lemmas.List.Elements.{same_from_all_zip}
use Rattle.std.proofs.lemmas.Result.{IfOk-weaker}
use Rattle.ra_precedence.specs.Conditions.{NameOnlyBelow}
use Rattle.ra_precedence.specs.Placing.{AllArePlaced}
use Rattle.ra_precedence.specs.Lasts.{AreOpenOnce}
use Rattle.ra_precedence.proofs.Lasts.{are_lasts}
use Rattle.ra_precedence.proofs.solver.last_among.Goals as goal

pub count_all-requires : goal.count_all-requires
count_all-requires c = λ b there.
    let low = c.requires.below b there in
    let long = ap length (same_from_all_zip _ c.args.counts.now.items c.in_ok-numbers.numbers.items c.in_ok-numbers.ensures.cases.0 (λ x y same. same)) in
    omega (arith, low, long)

pub place_all-requires-clause-named : goal.place_all-requires-clause-named
place_all-requires-clause-named c =
    let long = c.count_all.ensures.len ∙ ap length (same_from_all_zip _ c.args.counts.now.items c.in_ok-numbers.numbers.items c.in_ok-numbers.ensures.cases.0 (λ x y same. same)) in
    subst (λ k. NameOnlyBelow k c.args.conditions.now) (sym long) c.requires.named

pub place_all-requires-clause-lists : goal.place_all-requires-clause-lists
place_all-requires-clause-lists c =
    let long = c.count_all.ensures.len ∙ ap length (same_from_all_zip _ c.args.counts.now.items c.in_ok-numbers.numbers.items c.in_ok-numbers.ensures.cases.0 (λ x y same. same)) in
    c.requires.lists ∙ sym long

pub place_all-requires-clause-open : goal.place_all-requires-clause-open
place_all-requires-clause-open c = λ b.
    let copy = same_from_all_zip _ c.args.counts.now.items c.in_ok-numbers.numbers.items c.in_ok-numbers.ensures.cases.0 (λ x y same. same) in
    let each = c.in_ok-count_all.ensures.each b in
    let was = c.requires.counted b in
    let read = ap (λ ns. get_or ns b 0) copy in
    omega (arith, each, was, read)

pub place_all-requires-clause-fits : goal.place_all-requires-clause-fits
place_all-requires-clause-fits c =
    let long = c.count_all.ensures.len ∙ ap length (same_from_all_zip _ c.args.counts.now.items c.in_ok-numbers.numbers.items c.in_ok-numbers.ensures.cases.0 (λ x y same. same)) in
    let fits = c.requires.fits in
    omega (arith, long, fits)

pub returns : goal.returns
returns c = IfOk-weaker c.open_once.result _ _ (λ lasts once_open asked is named once.
    let long = c.count_all.ensures.len ∙ ap length (same_from_all_zip _ c.args.counts.now.items c.in_ok-numbers.numbers.items c.in_ok-numbers.ensures.cases.0 (λ x y same. same)) in
    are_lasts (length c.args.counts.now.items) asked c.args.set.now c.place_all.new.numbers.items
    c.in_ok-place_all.field-0.items named c.requires.below once (c.place_all.ensures.len ∙ long)
    (subst (λ cs. AllArePlaced cs c.place_all.new.numbers.items c.in_ok-place_all.field-0.items) is c.in_ok-place_all.ensures.placed)
    lasts.items (subst (λ ns. AreOpenOnce ns c.args.set.now lasts.items) c.deref.ensures.value once_open)) c.open_once.ensures
