use Rattle.ra_theorems.proofs.TheoremIndex.{removed_element_is_tombstone-anchor, removed_element_is_tombstone-again, removed_element_is_tombstone-twice}
use Rattle.ra_theorems.proofs.theorems.rga.removed_element_is_tombstone.Goals as goal

pub returns-clause-anchor : goal.returns-clause-anchor
returns-clause-anchor c = removed_element_is_tombstone-anchor

pub returns-clause-again : goal.returns-clause-again
returns-clause-again c = removed_element_is_tombstone-again

pub returns-clause-twice : goal.returns-clause-twice
returns-clause-twice c = removed_element_is_tombstone-twice
