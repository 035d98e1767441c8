use Rattle.std.proofs.Common.{◌≡◌, List, ℕ, ◌++◌, ap, subst, ◌∙◌, codes}
use Rattle.std.specs.Prelude.{OnOk}
use Rattle.ra_explain_text.specs.Certificates.{numbers_value}
use Rattle.ra_explain_text.specs.Possible.{bool_word}
use Rattle.ra_explain_text.proofs.Chains.{put_four}
use Rattle.ra_explain_text.proofs.json_possible.put_values.Goals as goal

pub returns : goal.returns
returns c =
    let it = c.args.it.now in
    put_four c.put-3.result c.args.out.now.items c.put.new.out.items c.put_listed.new.out.items c.put-2.new.out.items
    c.put-3.new.out.items (codes "\"values\":[") (numbers_value it.written.items) (codes "],\"none\":") (bool_word it.none)
    c.in_ok-put.ensures
    (c.in_ok-put_listed.ensures ∙ ap (λ (ns : List ℕ). c.put.new.out.items ++ numbers_value ns) c.deref.ensures.value)
    c.in_ok-put-2.ensures
    (subst (λ (bs : List ℕ). OnOk c.put-3.result (c.put-3.new.out.items ≡ c.put-2.new.out.items ++ bs))
    c.bool_word.ensures c.put-3.ensures)
