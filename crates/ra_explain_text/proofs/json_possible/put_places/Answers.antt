use Rattle.std.proofs.Common.{◌++◌, codes}
use Rattle.ra_explain_text.specs.Certificates.{numbers_value}
use Rattle.ra_explain_text.proofs.Chains.{put_then}
use Rattle.ra_explain_text.proofs.json_possible.put_places.Goals as goal

pub returns : goal.returns
returns c =
    let numbers = numbers_value c.args.places.now in
    put_then c.put-2.result c.args.out.now.items c.put.new.out.items c.put-2.new.out.items (codes ",\"undecided\":[")
    (numbers ++ codes "]") c.in_ok-put.ensures
    (put_then c.put-2.result c.put.new.out.items c.put_listed.new.out.items c.put-2.new.out.items numbers (codes "]")
    c.in_ok-put_listed.ensures c.put-2.ensures)
