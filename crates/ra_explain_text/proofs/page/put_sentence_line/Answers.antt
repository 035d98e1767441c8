use Rattle.std.proofs.Common.{◌++◌, codes}
use Rattle.std.specs.Prelude.{decimal}
use Rattle.ra_explain_text.specs.Quotes.{line_words}
use Rattle.ra_explain_text.specs.Words.{reason_words}
use Rattle.ra_explain_text.proofs.Chains.{put_then}
use Rattle.ra_explain_text.proofs.page.put_sentence_line.Goals as goal

pub returns : goal.returns
returns c =
    let v = c.args.violation.now in
    let label = codes " is a violation (label " ++ decimal v.fault.label in
    let why = reason_words c.args.kind v.fault.cause in
    put_then c.put-2.result c.args.line.now.items c.put_line.new.out.items c.put-2.new.out.items (line_words v.place)
    (label ++ (codes "): " ++ why)) c.in_ok-put_line.ensures
    (put_then c.put-2.result c.put_line.new.out.items c.put_numbered.new.out.items c.put-2.new.out.items label
    (codes "): " ++ why) c.in_ok-put_numbered.ensures.put
    (put_then c.put-2.result c.put_numbered.new.out.items c.put.new.out.items c.put-2.new.out.items (codes "): ") why
    c.in_ok-put.ensures (rw c.reason.ensures at c.put-2.ensures)))
