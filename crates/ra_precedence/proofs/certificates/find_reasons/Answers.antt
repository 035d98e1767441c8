use Rattle.std.proofs.Common.{◌≡◌, ◌-◌, ◌<◌, true, false, Some, get_or, length, set, ap, subst, sym, ◌∙◌, inl, inr, arith}
use Rattle.std.specs.Prelude.{slice_get}
use Rattle.std.proofs.lemmas.Bool.{cases_eq}
use Rattle.std.proofs.lemmas.List.{length-set, get_or-set_other}
use Rattle.std.proofs.lemmas.Option.{slice_get-get_or}
use Rattle.ra_precedence.proofs.certificates.find_reasons.Goals.{then-is_held_by, else-is_held_by}
use Rattle.ra_precedence.proofs.certificates.find_reasons.Goals as goal

pub loop-label-preserved : goal.loop-label-preserved
loop-label-preserved c =
    let at = c.match-get.position - 1 in
    let old = c.loop-label.found.items in
    let now = c.if-is_held_by.found.items in
    let kept = c.loop-label.invariant in
    elim c.if-is_held_by.branch [
      | then-is_held_by w ↦
          let is : now ≡ set old at true = ap (λ v. v.items) w.found-is in
          record {
            len = ap length is ∙ length-set old at true ∙ kept.len;
            held =
                λ i found. elim (cases_eq i at) [
                  | inl same ↦
                      let within : at < length c.args.reasons.now =
                      let past = c.if-position-reasons.false in let some = c.if-position-eq0.false in omega (arith, past, some) in
                      inr (
                        c.index-reasons-position.result,
                        ap (slice_get c.args.reasons.now) same
                            ∙ slice_get-get_or c.args.reasons.now at c.index-reasons-position.result within
                            ∙ ap Some (sym c.index-reasons-position.is),
                        c.is_held_by.ensures w.if-is_held_by.true,
                      )
                  | inr other ↦
                      kept.held i (sym (get_or-set_other old at i true false other)
                      ∙ subst (λ ms. get_or ms i false ≡ true) is found)
                ];
          }
      | else-is_held_by w ↦
          let is : now ≡ old = ap (λ v. v.items) w.found-is in
          record {
            len = ap length is ∙ kept.len;
            held = λ i found. kept.held i (subst (λ ms. get_or ms i false ≡ true) is found);
          }
    ]
