use Rattle.std.proofs.Common.{◌≡◌, ◌+◌, [], ◌∷◌, ◌++◌, get_or, take, sym, ap, ◌∙◌}
use Rattle.std.specs.List.{slice_get, cons_option}
use Rattle.std.proofs.lemmas.List.{append-nil, take_more}
use Rattle.std.proofs.lemmas.List.Elements.{filter_map-append}
use Rattle.ra_list_witness.specs.Named.{elements_of}
use Rattle.ra_list_witness.proofs.named.elements_of.Goals as goal
use Rattle.ra_list_witness.proofs.named.elements_of.Goals.{in-Some+in_ok-push, in_default}

pub loop-number-preserved : goal.loop-number-preserved
loop-number-preserved c =
    let elements = c.args.numbers.now in
    let order = c.args.order.now in
    let i = c.loop-number.number-index in
    let more : elements_of elements (take (i + 1) order)
    ≡ elements_of elements (take i order) ++ cons_option (slice_get elements (get_or order i 0)) [] =
    ap (elements_of elements) (take_more order i 0 c.loop-number-test.true)
    ∙ filter_map-append (slice_get elements) (take i order) (get_or order i 0 ∷ []) in
    elim c.match-element.branch [
      | in-Some+in_ok-push w ↦
          ap (λ v. v.items) w.elements-is ∙ w.in_ok-push.ensures.items
          ∙ ap (λ xs. xs ++ w.in-Some.element ∷ []) c.loop-number.invariant
          ∙ ap (λ o. elements_of elements (take i order) ++ cons_option o []) (sym (sym c.element.ensures ∙ w.in-Some.is))
          ∙ sym more
      | in_default w ↦
          ap (λ v. v.items) w.elements-is ∙ c.loop-number.invariant ∙ sym (append-nil (elements_of elements (take i order)))
          ∙ ap (λ o. elements_of elements (take i order) ++ cons_option o []) (sym (sym c.element.ensures ∙ w.in_default.is))
          ∙ sym more
    ]
