use Rattle.std.proofs.Common.{◌++◌, codes}
use Rattle.ra_explain_text.proofs.Chains.{put_then}
use Rattle.ra_explain_diagram.specs.Pictures.{left_out_line}
use Rattle.ra_explain_diagram.proofs.html.put_caption.Goals as goal

pub returns : goal.returns
returns c =
    let others = left_out_line c.args.others in
    let end = codes "</figcaption></figure>\n" in
    put_then c.put-2.result c.args.out.now.items c.put.new.out.items c.put-2.new.out.items (codes "<figcaption>")
    (others ++ end) c.in_ok-put.ensures
    (put_then c.put-2.result c.put.new.out.items c.put_left_out.new.out.items c.put-2.new.out.items others end
    c.in_ok-put_left_out.ensures c.put-2.ensures)
