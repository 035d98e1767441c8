use Rattle.std.proofs.Common.{codes}
use Rattle.std.specs.Prelude.{decimal}
use Rattle.ra_explain_text.specs.Numbers.{line_number}
use Rattle.ra_explain_text.proofs.Chains.{put_then}
use Rattle.ra_explain_text.proofs.json.put_change_member.Goals as goal

pub returns-in_ok-put-in-ComesBefore : goal.returns-in_ok-put-in-ComesBefore
returns-in_ok-put-in-ComesBefore c = rw c.in-ComesBefore.is
    (put_then c.put_line_number-in-ComesBefore.result c.args.out.now.items c.put-in-ComesBefore.new.out.items
    c.put_line_number-in-ComesBefore.new.out.items (codes "{\"comes_before_line\":")
    (decimal (line_number c.in-ComesBefore.at)) c.in_ok-put-in-ComesBefore.ensures
    c.put_line_number-in-ComesBefore.ensures)
