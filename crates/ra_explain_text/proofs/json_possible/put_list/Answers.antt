use Rattle.std.proofs.Common.{◌≡◌, List, ℕ, ◌++◌, ap, subst, ◌∙◌, codes}
use Rattle.std.specs.Prelude.{OnOk}
use Rattle.ra_explain_text.specs.Certificates.{numbers_value}
use Rattle.ra_explain_text.specs.Numbers.{size_word}
use Rattle.ra_explain_text.specs.Possible.{places_member}
use Rattle.ra_explain_text.proofs.Chains.{put_then, put_four}
use Rattle.ra_explain_text.proofs.json_possible.put_list.Goals as goal

pub returns : goal.returns
returns c =
    let it = c.args.it.now in
    let elements = numbers_value it.list.items in
    let places = places_member it.undecided.items in
    put_then c.put_places.result c.args.out.now.items c.put.new.out.items c.put_places.new.out.items
    (codes "\"nearest\":[") (elements ++ (codes "],\"kept\":" ++ (size_word it.kept ++ places))) c.in_ok-put.ensures
    (put_four c.put_places.result c.put.new.out.items c.put_listed.new.out.items c.put-2.new.out.items
    c.put_size.new.out.items c.put_places.new.out.items elements (codes "],\"kept\":") (size_word it.kept) places
    (c.in_ok-put_listed.ensures ∙ ap (λ (ns : List ℕ). c.put.new.out.items ++ numbers_value ns) c.deref.ensures.value)
    c.in_ok-put-2.ensures c.in_ok-put_size.ensures
    (subst (λ (ns : List ℕ). OnOk c.put_places.result (c.put_places.new.out.items
    ≡ c.put_size.new.out.items ++ places_member ns)) c.deref-2.ensures.value c.put_places.ensures))
