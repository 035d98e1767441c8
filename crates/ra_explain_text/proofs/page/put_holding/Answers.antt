use Rattle.std.proofs.Common.{◌==◌, ◌++◌, codes}
use Rattle.std.specs.Prelude.{decimal, if◌then◌else◌}
use Rattle.ra_explain_text.proofs.Chains.{put_then}
use Rattle.ra_explain_text.proofs.page.put_holding.Goals as goal

pub returns : goal.returns
returns c =
    let labels = c.args.labels in
    put_then c.put.result c.args.out.now.items c.put_count.new.out.items c.put.new.out.items
    (decimal labels ++ (if labels == 1 then codes " label holds" else codes " labels hold"))
    (codes ": one order explains all results.") c.in_ok-put_count.ensures c.put.ensures
