use Rattle.std.proofs.Common.{◌≡◌, ◌+◌, [], ◌∷◌, ◌++◌, Some, None, get_or, take, sym, ap, ◌∙◌, arith}
use Rattle.std.specs.Prelude.{filter_map}
use Rattle.std.specs.List.{cons_option}
use Rattle.std.proofs.lemmas.List.{take_more, append-nil}
use Rattle.std.proofs.lemmas.List.Elements.{filter_map-append}
use Rattle.std.proofs.lemmas.Grind.{common_steps}
use Rattle.ra_siblings.specs.Kept.{value_at, values_of}
use Rattle.ra_siblings.proofs.siblings.Siblings.written.Goals as goal
use Rattle.ra_siblings.proofs.siblings.Siblings.written.Goals.{in-Some+in_ok-push, in_default}

pub loop-label-preserved : goal.loop-label-preserved
loop-label-preserved c =
    let kept = c.args.self.now in
    let labels = c.args.labels.now in
    let i = c.loop-label.label-index in
    let m = get_or labels i 0 in
    let before = take i labels in
    let more : values_of kept (take (i + 1) labels) ≡ values_of kept before ++ cons_option (value_at kept m) [] =
    ap (values_of kept) (take_more labels i 0 c.loop-label-test.true)
    ∙ filter_map-append (value_at kept) before (m ∷ []) in
    elim c.match-value.branch [
      | in-Some+in_ok-push w ↦
          let value = w.in-Some.value in
          let pushed : c.match-value.values.items ≡ c.loop-label.values.items ++ value ∷ [] = grind (arith, common_steps) in
          pushed ∙ ap (λ xs. xs ++ value ∷ []) c.loop-label.invariant
          ∙ sym (more ∙ ap (λ o. values_of kept before ++ cons_option o []) (sym c.value.ensures ∙ w.in-Some.is))
      | in_default w ↦
          let same : c.match-value.values.items ≡ c.loop-label.values.items = grind (arith, common_steps) in
          same ∙ c.loop-label.invariant
          ∙ sym (more ∙ ap (λ o. values_of kept before ++ cons_option o []) (sym c.value.ensures ∙ w.in_default.is)
          ∙ append-nil (values_of kept before))
    ]
