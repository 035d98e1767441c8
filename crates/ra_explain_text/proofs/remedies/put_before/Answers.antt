use Rattle.std.proofs.Common.{◌++◌, codes}
use Rattle.ra_explain_text.specs.Quotes.{line_words}
use Rattle.ra_explain_text.proofs.Chains.{put_then}
use Rattle.ra_explain_text.proofs.remedies.put_before.Goals as goal

pub returns : goal.returns
returns c =
    let at = line_words c.args.at in
    put_then c.put_line-2.result c.args.text.now.items c.put_line.new.out.items c.put_line-2.new.out.items
    (line_words c.args.place) (codes " had come before " ++ at) c.in_ok-put_line.ensures
    (put_then c.put_line-2.result c.put_line.new.out.items c.put.new.out.items c.put_line-2.new.out.items
    (codes " had come before ") at c.in_ok-put.ensures c.put_line-2.ensures)
