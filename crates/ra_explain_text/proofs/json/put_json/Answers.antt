use Rattle.std.proofs.Common.{ℕ, List, ◌++◌, true, codes, ap, ◌∙◌}
use Rattle.std.specs.Prelude.{decimal}
use Rattle.ra_explain.specs.declared.undelivered.Undelivered.{Undelivered}
use Rattle.ra_explain_text.specs.Json.{answer_members, lines_value, lacks_members}
use Rattle.ra_explain_text.proofs.Chains.{put_then, put_six}
use Rattle.ra_explain_text.proofs.json.put_json.Goals as goal

pub returns : goal.returns
returns c =
    let names = c.args.view.now.names.now in
    let it = c.args.view.now.explanation.now in
    let refused = codes ",\"refused\":" ++ decimal it.report.refused in
    let lines = lines_value it.rejected.items in
    let lacks = lacks_members names true it.undelivered.items in
    let opened = codes ",\"refused_lines\":[" in
    let more = codes "],\"lacks\":{" in
    put_then c.put-3.result c.args.out.now.items c.put_answer.new.out.items c.put-3.new.out.items
    (answer_members names it it.violation) (refused ++ (opened ++ (lines ++ (more ++ (lacks ++ codes "}}\n")))))
    c.in_ok-put_answer.ensures
    (put_six c.put-3.result c.put_answer.new.out.items c.put_numbered.new.out.items c.put.new.out.items
    c.put_lines.new.out.items c.put-2.new.out.items c.put_lacks.new.out.items c.put-3.new.out.items refused opened
    lines more lacks (codes "}}\n") c.in_ok-put_numbered.ensures.put c.in_ok-put.ensures
    (c.in_ok-put_lines.ensures
    ∙ ap (λ (places : List ℕ). c.put.new.out.items ++ lines_value places) c.deref.ensures.value)
    c.in_ok-put-2.ensures
    (c.in_ok-put_lacks.ensures
    ∙ ap (λ (all : List Undelivered). c.put-2.new.out.items ++ lacks_members names true all) c.deref-2.ensures.value)
    c.put-3.ensures)
