use Rattle.std.proofs.Common.{◌≡◌, ℕ, ◌+◌, ◌<◌, cond, true, false, [], ◌∷◌, ◌++◌, filter, length, get_or, take, refl, sym, ap, ◌∙◌, arith}
use Rattle.std.specs.Prelude.{not}
use Rattle.std.proofs.lemmas.Bool.{not_from_false, not_from_true, false_from_ne_true, false≢true}
use Rattle.std.proofs.lemmas.List.{append-nil}
use Rattle.std.proofs.lemmas.List.Elements.{filter_more}
use Rattle.std.proofs.lemmas.Grind.{common_steps}
use Rattle.ra_labels.specs.Lists.{is_among}
use Rattle.ra_siblings.proofs.KeptLabels.{IsBehindAll, among_at, behind_more, behind_rest}
use Rattle.ra_siblings.proofs.label_set.without.Goals as goal
use Rattle.ra_siblings.proofs.label_set.without.Goals.{then-not-is_at+in_ok-push, else-not-is_at}

pub loop-label-preserved : goal.loop-label-preserved
loop-label-preserved c =
    let others = c.args.replaced.now in
    let labels = c.args.labels.now in
    let i = c.loop-label.label-index in
    let next = c.first_at_least-next.result in
    let m = get_or labels i 0 in
    let known = c.loop-label.invariant in
    let short : i < length labels = c.loop-label-test.true in
    let test = λ (k : ℕ). not (is_among k others) in
    let front = filter test (take i labels) in
    let below = behind_more others labels c.loop-label.next next i c.requires.rising short known.behind
    c.first_at_least-next.ensures.below in
    let exactly = among_at others next m c.requires.others below c.first_at_least-next.ensures.at in
    let more = filter_more test labels i 0 short in
    record {
      kept = elim c.if-not-is_at.branch [
        | then-not-is_at+in_ok-push w ↦
            let missed : c.is_at.result ≡ false = grind (arith, common_steps) in
            let left : is_among m others ≡ false = false_from_ne_true (is_among m others) (λ among.
            false≢true (sym missed ∙ c.is_at.ensures.1 (exactly.0 among))) in
            let pushed : c.if-not-is_at.kept.items ≡ c.loop-label.kept.items ++ m ∷ [] = grind (arith, common_steps) in
            pushed ∙ ap (λ xs. xs ++ m ∷ []) known.kept
            ∙ sym (more ∙ ap (λ b. front ++ cond b (m ∷ []) []) (not_from_false (is_among m others) left))
        | else-not-is_at w ↦
            let met : c.is_at.result ≡ true = grind (arith, common_steps) in
            let among : is_among m others ≡ true = exactly.1 (c.is_at.ensures.0 met) in
            let same : c.if-not-is_at.kept.items ≡ c.loop-label.kept.items = grind (arith, common_steps) in
            same ∙ known.kept
            ∙ sym (more ∙ ap (λ b. front ++ cond b (m ∷ []) []) (not_from_true (is_among m others) among)
            ∙ append-nil front)
      ];
      within = c.first_at_least-next.ensures.within.1;
      behind = behind_rest others labels next i c.requires.rising short below;
    }
