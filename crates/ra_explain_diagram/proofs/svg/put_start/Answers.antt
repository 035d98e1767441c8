use Rattle.std.proofs.Common.{codes}
use Rattle.ra_explain_text.proofs.Chains.{put_four}
use Rattle.ra_explain_diagram.specs.Drawings.{svg_opening, title_of}
use Rattle.ra_explain_diagram.proofs.svg.put_start.Goals as goal

pub returns : goal.returns
returns c =
    put_four c.put-2.result c.args.out.now.items c.put_opening.new.out.items c.put.new.out.items
    c.put_answer.new.out.items c.put-2.new.out.items (svg_opening c.args.width c.args.height)
    (codes "\" role=\"img\" aria-labelledby=\"answer\"><title id=\"answer\">") (title_of c.args.report.now)
    (codes "</title>\n") c.in_ok-put_opening.ensures c.in_ok-put.ensures c.in_ok-put_answer.ensures c.put-2.ensures
