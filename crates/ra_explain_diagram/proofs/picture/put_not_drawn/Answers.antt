use Rattle.std.proofs.Common.{◌==◌, ◌++◌, codes}
use Rattle.std.specs.Prelude.{decimal, if◌then◌else◌}
use Rattle.ra_explain_text.proofs.Chains.{put_then}
use Rattle.ra_explain_diagram.proofs.picture.put_not_drawn.Goals as goal

pub returns : goal.returns
returns c =
    let count = c.args.count in
    put_then c.put.result c.args.out.now.items c.put_count.new.out.items c.put.new.out.items
    (decimal count ++ (if count == 1 then codes " more replica is" else codes " more replicas are"))
    (codes " not drawn\n") c.in_ok-put_count.ensures c.put.ensures
