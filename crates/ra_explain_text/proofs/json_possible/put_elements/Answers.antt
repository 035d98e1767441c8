use Rattle.std.proofs.Common.{◌≡◌, List, ℕ, ◌++◌, ap, subst, ◌∙◌, codes}
use Rattle.std.specs.Prelude.{OnOk}
use Rattle.ra_explain_text.specs.Certificates.{numbers_value}
use Rattle.ra_explain_text.specs.Possible.{unasked_member}
use Rattle.ra_explain_text.proofs.Chains.{put_then, put_four}
use Rattle.ra_explain_text.proofs.json_possible.put_elements.Goals as goal

pub returns : goal.returns
returns c =
    let it = c.args.it.now in
    let listed = numbers_value it.listed.items in
    let undecided = numbers_value it.undecided.items in
    let unasked = unasked_member it.unasked.items in
    put_then c.put_unasked.result c.args.out.now.items c.put.new.out.items c.put_unasked.new.out.items
    (codes "\"listed\":[") (listed ++ (codes "],\"undecided\":[" ++ (undecided ++ unasked))) c.in_ok-put.ensures
    (put_four c.put_unasked.result c.put.new.out.items c.put_listed.new.out.items c.put-2.new.out.items
    c.put_listed-2.new.out.items c.put_unasked.new.out.items listed (codes "],\"undecided\":[") undecided unasked
    (c.in_ok-put_listed.ensures ∙ ap (λ (ns : List ℕ). c.put.new.out.items ++ numbers_value ns) c.deref.ensures.value)
    c.in_ok-put-2.ensures
    (c.in_ok-put_listed-2.ensures
    ∙ ap (λ (ns : List ℕ). c.put-2.new.out.items ++ numbers_value ns) c.deref-2.ensures.value)
    (subst (λ (ns : List ℕ). OnOk c.put_unasked.result (c.put_unasked.new.out.items
    ≡ c.put_listed-2.new.out.items ++ unasked_member ns)) c.deref-3.ensures.value c.put_unasked.ensures))
