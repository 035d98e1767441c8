use Rattle.std.proofs.Common.{codes}
use Rattle.ra_history_writer.specs.Spelling.{line_of, name_of}
use Rattle.ra_explain_text.specs.Json.{expected_value}
use Rattle.ra_explain_text.proofs.Chains.{put_six}
use Rattle.ra_explain_text.proofs.json.put_commands.Goals as goal

pub returns : goal.returns
returns c =
    let names = c.args.names.now in
    let v = c.args.violation.now in
    put_six c.put_expected.result c.args.out.now.items c.put.new.out.items c.put_name.new.out.items
    c.put-2.new.out.items c.put_command.new.out.items c.put-3.new.out.items c.put_expected.new.out.items
    (codes ",\"replica\":\"") (name_of names v.replica) (codes "\",\"told\":\"") (line_of names v.reported)
    (codes "\",\"right\":") (expected_value names v.expected) c.in_ok-put.ensures c.in_ok-put_name.ensures
    c.in_ok-put-2.ensures c.in_ok-put_command.ensures.put c.in_ok-put-3.ensures c.put_expected.ensures
