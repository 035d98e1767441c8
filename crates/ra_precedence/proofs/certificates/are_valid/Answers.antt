use Rattle.std.proofs.Common.{◌≡◌, ◌<◌, true, false, refl, get_or, length, ap, subst, sym, ◌∙◌, inl, inr, arith}
use Rattle.std.proofs.lemmas.Option.{slice_get_read, same_Some}
use Rattle.ra_precedence.specs.Reasons.{IsHeld}
use Rattle.ra_precedence.proofs.certificates.are_valid.Goals as goal

pub loop-condition-preserved : goal.loop-condition-preserved
loop-condition-preserved c = record {
  len = c.find_reasons.ensures.len ∙ c.loop-condition.invariant.len;
  held = λ i found. elim (c.find_reasons.ensures.held i found) [
    | inl before ↦ c.loop-condition.invariant.held i before
    | inr (held, is, by) ↦ (
      held,
      is,
      (
        c.condition-item.result,
        (c.loop-condition.condition-index, c.loop-condition-test.true, sym c.condition-item.is),
        by.0,
        by.1,
      ),
    )
  ];
}

pub returns : goal.returns
returns c = λ is held (i, within, at).
    let marks = c.loop-condition.found.items in
    let low : i < length marks = let len = c.loop-condition.invariant.len in omega (arith, len, within) in
    let found : get_or marks i false ≡ true =
    subst (λ ms. get_or ms i false ≡ true) c.deref-2.ensures.value
    (c.are_all_set.ensures is i (let same = ap length c.deref-2.ensures.value in omega (arith, same, low))) in
    let (other, its, holds) = c.loop-condition.invariant.held i found in
    let same : other ≡ held = same_Some other held (sym its
    ∙ slice_get_read c.args.reasons.now (length c.args.reasons.now) i held refl within (sym at)) in
    subst (IsHeld c.args.conditions.now) same holds
