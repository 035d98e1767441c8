use Rattle.std.proofs.Common.{◌≡◌, List, ℕ, ◌++◌, ap, subst, ◌∙◌}
use Rattle.std.specs.Prelude.{OnOk}
use Rattle.ra_explain.specs.declared.certificate.Claim.{Claim}
use Rattle.ra_explain_text.specs.Certificates.{certificate_text}
use Rattle.ra_explain_text.specs.Json.{violation_members, conflict_text}
use Rattle.ra_explain_text.specs.Opinions.{opinion_text, list_text}
use Rattle.ra_explain_text.specs.Possible.{possible_text}
use Rattle.ra_explain_text.proofs.Chains.{put_six}
use Rattle.ra_explain_text.proofs.json.put_no.Goals as goal

pub returns : goal.returns
returns c =
    let names = c.args.view.now.names.now in
    let it = c.args.view.now.explanation.now in
    put_six c.put.result c.args.out.now.items c.put_violation.new.out.items c.put_conflict.new.out.items
    c.put_opinion_members.new.out.items c.put_possible.new.out.items c.put_certificate.new.out.items c.put.new.out.items
    (violation_members names c.args.violation.now it.remedies) (conflict_text names it.places it.conflict)
    (opinion_text it.second_opinion) (possible_text it.possible)
    (certificate_text it.second_opinion it.places it.certificate.items) (list_text it.one_list)
    c.in_ok-put_violation.ensures c.in_ok-put_conflict.ensures c.in_ok-put_opinion_members.ensures
    c.in_ok-put_possible.ensures
    (c.in_ok-put_certificate.ensures ∙ ap (λ (cs : List Claim). c.put_possible.new.out.items
    ++ certificate_text it.second_opinion it.places cs) c.deref.ensures.value)
    (subst (λ (bs : List ℕ). OnOk c.put.result (c.put.new.out.items ≡ c.put_certificate.new.out.items ++ bs))
    c.list_member.ensures c.put.ensures)
