use Rattle.std.proofs.Common.{List, ℕ, ◌++◌, ap, ◌∙◌, codes}
use Rattle.ra_explain_text.specs.Certificates.{because_word, number_value}
use Rattle.ra_explain_text.proofs.Chains.{put_four}
use Rattle.ra_explain_text.proofs.json_certificate.put_head.Goals as goal

pub returns : goal.returns
returns c =
    let claim = c.args.claim.now in
    put_four c.put_optional.result c.args.out.now.items c.put.new.out.items c.put-2.new.out.items c.put-3.new.out.items
    c.put_optional.new.out.items (codes "{\"because\":\"") (because_word claim.because) (codes "\",\"before\":")
    (number_value claim.before) c.in_ok-put.ensures
    (c.in_ok-put-2.ensures ∙ ap (λ (w : List ℕ). c.put.new.out.items ++ w) c.because_word.ensures) c.in_ok-put-3.ensures
    c.put_optional.ensures
