use Rattle.std.proofs.Common.{◌≡◌, ℕ, None, length, length-set, length-append, get_or, ◌+◌, ◌<◌, ◌++◌, ◌∷◌, [], sym, ap, subst, ◌∙◌, arith}
use Rattle.std.proofs.lemmas.List.{get_or_read}
use Rattle.std.specs.Prelude.{IfSome}
use Rattle.ra_any_order.specs.Previous.{AreBelow}
use Rattle.ra_any_order.specs.Changes.{ArePrevious}
use Rattle.ra_any_order.proofs.LastLabels.{earlier_pushed, last_more, previous_more, below_set, below_pushed}
use Rattle.ra_any_order.proofs.previous.previous_labels.Goals as goal

pub loop-label-preserved : goal.loop-label-preserved
loop-label-preserved c =
    let n = c.loop-label.label in
    let r = c.issuer-replica.result in
    let last = c.loop-label.last.items in
    let previous = c.loop-label.previous.items in
    let kept = c.loop-label.invariant in
    let there : r < length last = subst (λ k. r < k) (sym kept.wide) c.issuer-replica.ensures.replica in
    let pushed : c.push.new.self.items ≡ previous ++ get_or last r None ∷ [] =
    c.in_ok-push.ensures.items
    ∙ ap (λ x. previous ++ x ∷ []) (get_or_read last r c.index.result.now there c.index.ensures None) in
    record {
      last_below = below_set n last r there kept.last_below;
      below = subst (AreBelow (n + 1)) (sym pushed) (below_pushed n last previous r kept.len kept.last_below kept.below);
      earlier = subst (λ xs. (i : ℕ) → IfSome (get_or xs i None) (λ m. m < i)) (sym pushed)
          (earlier_pushed n last previous r kept.len kept.last_below kept.earlier);
      lasts = λ past stands. last_more past.records n last r there (c.issuer-replica.ensures.issued past stands) (kept.lasts past stands);
      each = λ past stands. subst (ArePrevious past.records (n + 1)) (sym pushed)
          (previous_more past.records n last previous r there (c.issuer-replica.ensures.issued past stands)
          (kept.lasts past stands) kept.len (kept.each past stands));
      len = ap length pushed ∙ length-append previous (get_or last r None ∷ []) ∙ ap (λ k. k + 1) kept.len;
      wide = length-set last r _ ∙ kept.wide;
      within = let test = c.loop-label-test.true in let end = c.labels-label-end.ensures in omega (arith, test, end);
    }

pub returns-clause-earlier : goal.returns-clause-earlier
returns-clause-earlier c =
    let end = c.labels-label-end.ensures in
    let test = c.loop-label-test.false in
    let within = c.loop-label.invariant.within in
    let len = c.loop-label.invariant.len in
    record { len = omega (arith, end, test, within, len); earlier = c.loop-label.invariant.earlier }
