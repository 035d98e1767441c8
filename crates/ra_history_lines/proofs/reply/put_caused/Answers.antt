use Rattle.ra_labels.proofs.Results.{on_err, on_err_any}
use Rattle.ra_history_lines.proofs.Beginnings.{begun_by}
use Rattle.ra_history_lines.proofs.reply.put_caused.Goals as goal

pub returns-in_err-put_bytes-clause-part : goal.returns-in_err-put_bytes-clause-part
returns-in_err-put_bytes-clause-part c =
    on_err_any c.from_residual-in_err-put_bytes.result
    (begun_by _ _ _ _ c.in_ok-put_numbered.ensures.put c.in_err-put_bytes.ensures.part)

pub returns-in_err-put_bytes-2-clause-part : goal.returns-in_err-put_bytes-2-clause-part
returns-in_err-put_bytes-2-clause-part c =
    on_err_any c.from_residual-in_err-put_bytes-2.result
    (begun_by _ _ _ _ c.in_ok-put_numbered.ensures.put
    (begun_by _ _ _ _ c.in_ok-put_bytes.ensures.put c.in_err-put_bytes-2.ensures.part))

pub returns-clause-part : goal.returns-clause-part
returns-clause-part c =
    on_err c.put_bytes-3.result c.put_bytes-3.ensures.part (λ begins.
    begun_by _ _ _ _ c.in_ok-put_numbered.ensures.put
    (begun_by _ _ _ _ c.in_ok-put_bytes.ensures.put (begun_by _ _ _ _ c.in_ok-put_bytes-2.ensures.put begins)))
