use Rattle.ra_theorems.proofs.TheoremIndex.{extends_iff_stands_before-stands, extends_iff_stands_before-extends}
use Rattle.ra_theorems.proofs.theorems.linearization.extends_iff_stands_before.Goals as goal

pub returns-clause-stands : goal.returns-clause-stands
returns-clause-stands c = extends_iff_stands_before-stands

pub returns-clause-extends : goal.returns-clause-extends
returns-clause-extends c = extends_iff_stands_before-extends
