use Rattle.ra_labels.proofs.TheoremIndex.{have_same_elements_iff-elements, have_same_elements_iff-rising}
use Rattle.ra_labels.proofs.lists.have_same_elements_iff.Goals as goal

pub returns-clause-elements : goal.returns-clause-elements
returns-clause-elements c = have_same_elements_iff-elements

pub returns-clause-rising : goal.returns-clause-rising
returns-clause-rising c = have_same_elements_iff-rising
