use Rattle.std.proofs.Common.{sym, ap, ◌∙◌}
use Rattle.ra_labels.specs.Answer.{form_refusal}
use Rattle.ra_labels.proofs.refusal.fits.Goals as goal

pub returns-in-Operate : goal.returns-in-Operate
returns-in-Operate c =
    c.fits_operation.ensures c.in-Operate.replica ∙ sym (ap (form_refusal c.args.kind) c.in-Operate.is)
