use Rattle.std.proofs.Common.{◌<◌, None, length, sym, subst}
use Rattle.std.specs.Prelude.{IfSome}
use Rattle.std.proofs.lemmas.List.{get_or_read}
use Rattle.ra_labels.specs.Places.{issuer_of}
use Rattle.ra_any_order.specs.Previous.{IsLastBelow}
use Rattle.ra_any_order.proofs.next_read.label_before.Goals as goal

pub returns-clause-earlier : goal.returns-clause-earlier
returns-clause-earlier c =
    let n = c.args.label in
    let previous = c.in_ok-previous.previous.items in
    let there : n < length previous = subst (λ k. n < k) (sym c.in_ok-previous.ensures.len) c.requires in
    subst (λ p. IfSome p (λ it. it < n)) (sym (get_or_read previous n c.index.result.now there c.index.ensures None))
    (c.in_ok-previous.ensures.earlier.earlier n)

pub returns-clause-last : goal.returns-clause-last
returns-clause-last c = λ past stands.
    let n = c.args.label in
    let previous = c.in_ok-previous.previous.items in
    let there : n < length previous = subst (λ k. n < k) (sym c.in_ok-previous.ensures.len) c.requires in
    subst (IsLastBelow past.records n (issuer_of past.records n))
    (sym (get_or_read previous n c.index.result.now there c.index.ensures None))
    (c.in_ok-previous.ensures.each past stands n c.requires)
