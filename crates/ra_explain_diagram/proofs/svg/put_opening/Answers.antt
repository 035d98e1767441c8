use Rattle.std.proofs.Common.{◌++◌, codes}
use Rattle.std.specs.Prelude.{decimal}
use Rattle.ra_explain_text.proofs.Chains.{put_four}
use Rattle.ra_explain_diagram.proofs.svg.put_opening.Goals as goal

pub returns : goal.returns
returns c =
    let width = decimal c.args.width in
    let height = decimal c.args.height in
    put_four c.put_numbered-4.result c.args.out.now.items c.put_numbered.new.out.items c.put_numbered-2.new.out.items
    c.put_numbered-3.new.out.items c.put_numbered-4.new.out.items
    (codes "<svg xmlns=\"http://www.w3.org/2000/svg\" width=\"" ++ width) (codes "\" height=\"" ++ height)
    (codes "\" viewBox=\"0 0 " ++ width) (codes " " ++ height) c.in_ok-put_numbered.ensures.put
    c.in_ok-put_numbered-2.ensures.put c.in_ok-put_numbered-3.ensures.put c.put_numbered-4.ensures.put
