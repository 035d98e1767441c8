use Rattle.std.proofs.Common.{◌++◌, codes}
use Rattle.ra_explain_text.specs.Possible.{answers_members}
use Rattle.ra_explain_text.proofs.Chains.{put_then}
use Rattle.ra_explain_text.proofs.json_possible.put_member.Goals as goal

pub returns : goal.returns
returns c =
    let members = answers_members c.args.answers.now in
    put_then c.put-2.result c.args.out.now.items c.put.new.out.items c.put-2.new.out.items (codes ",\"possible\":{")
    (members ++ codes "}") c.in_ok-put.ensures
    (put_then c.put-2.result c.put.new.out.items c.put_answers.new.out.items c.put-2.new.out.items members (codes "}")
    c.in_ok-put_answers.ensures c.put-2.ensures)
