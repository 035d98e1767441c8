use Rattle.std.proofs.Common.{◌≡◌, List, ℕ, ◌++◌, ap, subst, ◌∙◌, codes}
use Rattle.std.specs.Prelude.{OnOk}
use Rattle.ra_explain_text.specs.Certificates.{numbers_value}
use Rattle.ra_explain_text.proofs.Chains.{put_four}
use Rattle.ra_explain_text.proofs.json_certificate.put_lists.Goals as goal

pub returns : goal.returns
returns c =
    let claim = c.args.claim.now in
    put_four c.put_listed-2.result c.args.out.now.items c.put.new.out.items c.put_listed.new.out.items
    c.put-2.new.out.items c.put_listed-2.new.out.items (codes ",\"after\":[") (numbers_value claim.after.items)
    (codes "],\"elements\":[") (numbers_value claim.elements.items) c.in_ok-put.ensures
    (c.in_ok-put_listed.ensures ∙ ap (λ (ns : List ℕ). c.put.new.out.items ++ numbers_value ns) c.deref.ensures.value)
    c.in_ok-put-2.ensures
    (subst (λ (ns : List ℕ). OnOk c.put_listed-2.result (c.put_listed-2.new.out.items
    ≡ c.put-2.new.out.items ++ numbers_value ns)) c.deref-2.ensures.value c.put_listed-2.ensures)
