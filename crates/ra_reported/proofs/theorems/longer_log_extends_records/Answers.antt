use Rattle.ra_reported.proofs.LabelPlaces.{longer_reports}
use Rattle.ra_reported.proofs.theorems.longer_log_extends_records.Goals as goal

pub returns : goal.returns
returns c = longer_reports
