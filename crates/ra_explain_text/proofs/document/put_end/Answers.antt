use Rattle.std.proofs.Common.{◌++◌, codes}
use Rattle.ra_explain_text.proofs.Chains.{put_then}
use Rattle.ra_explain_text.proofs.document.put_end.Goals as goal

pub returns : goal.returns
returns c =
    put_then c.put_figure.result c.args.out.now.items c.put.new.out.items c.put_figure.new.out.items
    (codes "</pre>\n") (c.args.figure.now ++ codes "</body>\n</html>\n") c.in_ok-put.ensures c.put_figure.ensures
