-- What no order of the updates can change: a read returns only what some visible update can lead to.
use Rattle.std.specs.Prelude.{ℕ, List, Contains, Some, None}
use Rattle.ra_labels.specs.declared.operation.Op.{Op}
use Rattle.ra_labels.specs.declared.operation.Op.TheVariants as op
use Rattle.ra_labels.specs.declared.label.Label.{Label}
use Rattle.ra_labels.specs.Records.{Records, labels_of}
use Rattle.ra_some_order.specs.VisibleUpdates.{visible_labels, elements_in, HasOperation}

-- Holds if some visible update can lead to the answer of the operation: a visible write to the value that was read, or
-- no write is visible if none was; a visible addition to each element that was read, and a visible removal to each
-- element that was not read and that a visible update adds or removes.
abbrev pub IsPossibleRead : List Label → Op → Type 0
IsPossibleRead visible (op.Last None) = (value : ℕ) → ¬ HasOperation visible (op.Write value)
IsPossibleRead visible (op.Last (Some value)) = HasOperation visible (op.Write value)
IsPossibleRead visible (op.LwwRead list) =
    ((x : ℕ) → Contains list x → HasOperation visible (op.LwwAdd x))
    × ((x : ℕ) → Contains (elements_in visible) x → ¬ Contains list x → HasOperation visible (op.LwwRemove x))
IsPossibleRead visible _ = Unit {0}

-- holds if each read is possible
abbrev pub MeetsPlainConditions : Records → Type 0
MeetsPlainConditions records = (label : Label) → Contains (labels_of records) label
    → IsPossibleRead (visible_labels records label.number) label.op
