use Rattle.std.proofs.Common.{◌+◌, ◌<◌, ◌++◌, ◌∷◌, [], length, get_or, refl, sym, ap, subst, ◌∙◌, inl, inr, arith}
use Rattle.std.proofs.lemmas.List.Elements.{Contains-get_or}
use Rattle.ra_rga_precedence.specs.Relations.{IsRelation}
use Rattle.ra_rga_precedence.specs.UpdateConditions.{NameBelow}
use Rattle.ra_rga_precedence.proofs.PairLists.{AreFirstPairs, one_more_pair, all_pairs, named_edge, named_none}
use Rattle.ra_rga_precedence.proofs.pairs.add_pairs.Goals.{in-Above+in_ok-no_condition-in-Above+in_ok-push-in-Above, in-Apart+in_ok-edge-in-Apart+in_ok-push-in-Apart}
use Rattle.ra_rga_precedence.proofs.pairs.add_pairs.Goals as goal

pub relation_of-requires-clause-first : goal.relation_of-requires-clause-first
relation_of-requires-clause-first c =
    let i = c.loop-place.place in
    let labels = c.args.labels.now in
    let test = c.loop-place-test.true in
    let end = c.saturating_sub-place-end.ensures in
    c.requires.labels (get_or labels i 0) (Contains-get_or labels i 0 (omega (arith, test, end)))

pub relation_of-requires-clause-second : goal.relation_of-requires-clause-second
relation_of-requires-clause-second c =
    let i = c.loop-place.place in
    let labels = c.args.labels.now in
    let test = c.loop-place-test.true in
    let end = c.saturating_sub-place-end.ensures in
    c.requires.labels (get_or labels (i + 1) 0) (Contains-get_or labels (i + 1) 0 (omega (arith, test, end)))

pub loop-place-preserved : goal.loop-place-preserved
loop-place-preserved c =
    let i = c.loop-place.place in
    let labels = c.args.labels.now in
    let needed = c.args.needed.now in
    let ranks = c.args.ranks.now in
    let old = c.args.conditions.now.items in
    let now = c.loop-place.conditions.items in
    let kept = c.loop-place.invariant in
    let test = c.loop-place-test.true in
    let end = c.saturating_sub-place-end.ensures in
    let within : i + 1 < length labels = omega (arith, test, end) in
    let first_low = c.requires.labels (get_or labels i 0) (Contains-get_or labels i 0 (omega (arith, within))) in
    let second_low = c.requires.labels (get_or labels (i + 1) 0) (Contains-get_or labels (i + 1) 0 within) in
    elim c.match-relation_of.branch [
      | in-Above+in_ok-no_condition-in-Above+in_ok-push-in-Above w ↦
          let condition = w.in_ok-no_condition-in-Above.ensures in
          let items = ap (λ v. v.items) w.conditions-is ∙ w.in_ok-push-in-Above.ensures.items
          ∙ ap (λ k. now ++ k ∷ []) condition in
          record {
            first =
                subst (λ cs. AreFirstPairs needed labels old cs (i + 1)) (sym items)
                (one_more_pair needed labels old now i kept.first _ within
                (inl (
                  subst (IsRelation needed (get_or labels i 0) (get_or labels (i + 1) 0)) w.in-Above.is
                      c.relation_of.ensures,
                  refl,
                )));
            named =
                λ was. subst (NameBelow (length needed)) (sym items)
                (named_none needed ranks c.requires.below c.requires.ranks now (kept.named was));
          }
      | in-Apart+in_ok-edge-in-Apart+in_ok-push-in-Apart w ↦
          let left = w.in-Apart.left in
          let right = w.in-Apart.right in
          let items = ap (λ v. v.items) w.conditions-is ∙ w.in_ok-push-in-Apart.ensures.items
          ∙ ap (λ k. now ++ k ∷ []) w.in_ok-edge-in-Apart.ensures in
          let apart = subst (IsRelation needed (get_or labels i 0) (get_or labels (i + 1) 0)) w.in-Apart.is
          c.relation_of.ensures in
          record {
            first =
                subst (λ cs. AreFirstPairs needed labels old cs (i + 1)) (sym items)
                (one_more_pair needed labels old now i kept.first _ within (inr (left, right, apart, refl)));
            named =
                λ was. subst (NameBelow (length needed)) (sym items)
                (named_edge needed ranks c.requires.below c.requires.ranks now (kept.named was) (get_or labels i 0)
                (get_or labels (i + 1) 0) left right first_low second_low apart);
          }
    ]
