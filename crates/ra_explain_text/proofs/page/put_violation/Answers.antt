use Rattle.std.proofs.Common.{◌++◌}
use Rattle.ra_explain_text.specs.Opinions.{opinion_row}
use Rattle.ra_explain_text.specs.Rejections.{rejected_rows}
use Rattle.ra_explain_text.specs.Rows.{notes_bytes}
use Rattle.ra_explain_text.specs.Words.{sentence, reported_row, expected_row, remedy_rows}
use Rattle.ra_explain_text.proofs.Chains.{put_then, put_six}
use Rattle.ra_explain_text.proofs.page.put_violation.Goals as goal

pub returns : goal.returns
returns c =
    let names = c.args.view.now.names.now in
    let it = c.args.view.now.explanation.now in
    let v = c.args.violation.now in
    let first = sentence it.setup.kind v in
    let reported = reported_row names v in
    let expected = expected_row names v in
    let opinion = opinion_row v.fault.label it.second_opinion in
    let notes = notes_bytes c.args.notes.now in
    let remedies = remedy_rows names it v in
    let rejected = rejected_rows names it in
    put_then c.put_rejections.result c.args.out.now.items c.put_sentence.new.out.items c.put_rejections.new.out.items first
    (reported ++ (expected ++ (opinion ++ (notes ++ (remedies ++ rejected))))) c.in_ok-put_sentence.ensures
    (put_six c.put_rejections.result c.put_sentence.new.out.items c.put_reported.new.out.items
    c.put_expected.new.out.items c.put_opinion.new.out.items c.put_notes.new.out.items c.put_remedies.new.out.items
    c.put_rejections.new.out.items reported expected opinion notes remedies rejected c.in_ok-put_reported.ensures
    c.in_ok-put_expected.ensures c.in_ok-put_opinion.ensures c.in_ok-put_notes.ensures c.in_ok-put_remedies.ensures
    c.put_rejections.ensures)
