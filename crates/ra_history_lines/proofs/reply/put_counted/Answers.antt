use Rattle.ra_labels.proofs.Results.{on_err}
use Rattle.ra_history_lines.proofs.Beginnings.{begun_by}
use Rattle.ra_history_lines.proofs.reply.put_counted.Goals as goal

pub returns-clause-part : goal.returns-clause-part
returns-clause-part c =
    on_err c.put_bytes.result c.put_bytes.ensures.part
    (begun_by c.args.out.now.items c.put_numbered.new.out.items _ _ c.in_ok-put_numbered.ensures.put)
