use Rattle.ra_visibility.proofs.TheoremIndex.{extends_visibility_if_each_fits}
use Rattle.ra_visibility.proofs.theorems.extends_visibility_if_each_fits.Goals as goal

pub returns : goal.returns
returns c = extends_visibility_if_each_fits
