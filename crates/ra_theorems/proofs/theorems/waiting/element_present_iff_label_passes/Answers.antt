use Rattle.ra_theorems.proofs.TheoremIndex.{element_present_iff_label_passes-list, element_present_iff_label_passes-label}
use Rattle.ra_theorems.proofs.theorems.waiting.element_present_iff_label_passes.Goals as goal

pub returns-clause-list : goal.returns-clause-list
returns-clause-list c = element_present_iff_label_passes-list

pub returns-clause-label : goal.returns-clause-label
returns-clause-label c = element_present_iff_label_passes-label
