use Rattle.std.proofs.Common.{codes}
use Rattle.ra_explain_text.specs.Quotes.{line_words}
use Rattle.ra_explain_text.proofs.Chains.{put_then}
use Rattle.ra_explain_text.proofs.opinion.put_explained.Goals as goal

pub returns-in_ok-put-in-Some : goal.returns-in_ok-put-in-Some
returns-in_ok-put-in-Some c = rw c.in-Some.is
    (put_then c.put_line.result c.args.text.now.items c.put-in-Some.new.out.items c.put_line.new.out.items
    (codes "one explains the labels up to here, but none explains those up to ") (line_words c.in-Some.place)
    c.in_ok-put-in-Some.ensures c.put_line.ensures)
