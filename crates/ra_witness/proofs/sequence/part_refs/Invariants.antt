use Rattle.std.proofs.Common.{◌≡◌, take}
use Rattle.std.specs.Prelude.{flat_map}
use Rattle.ra_labels.specs.TheoremTerms.{EachLabelIsWellFormed}
use Rattle.ra_labels.specs.HistorySoFar.{History}
use Rattle.ra_witness.specs.Labels.{updates_by_number}
use Rattle.ra_witness.specs.Effects.{AreEffectsOf}
use Rattle.ra_witness.specs.Sequence.{refs_at}
use Rattle.ra_witness.proofs.sequence.part_refs.Given as goal

-- the parts of the labels so far
abbrev pub invariant-loop-number : goal.invariant-loop-number
invariant-loop-number g l = (past : History) → AreEffectsOf l.kept past
    → EachLabelIsWellFormed past.kind past.initial_replicas past.records → l.refs.items
    ≡ flat_map (refs_at (updates_by_number past.records)) (take l.number-index l.number-items)
