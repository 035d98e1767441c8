-- Lemmas on accepted records: each label is of the kind.
use Rattle.std.proofs.Common.{ℕ, List, []}
use Rattle.ra_labels.specs.declared.kind.Kind.{Kind}
use Rattle.ra_labels.specs.declared.command.Command.{Command}
use Rattle.ra_labels.specs.Records.{Records}
use Rattle.ra_labels.specs.Answer.{records_after_all}
use Rattle.ra_labels.specs.TheoremTerms.{EachLabelIsWellFormed}
use Rattle.ra_theorems.proofs.TheoremIndex.{accepted_labels_well_formed-all}
use Rattle.ra_some_order.specs.SomeOrder.{EachLabelIsOfKind}

pub formed_of_kind : (kind : Kind) (replicas : ℕ) (records : Records) → EachLabelIsWellFormed kind replicas records
    → EachLabelIsOfKind kind records
formed_of_kind kind replicas records formed label there = (formed label there).of_kind

pub accepted_of_kind : (kind : Kind) (replicas : ℕ) (commands : List Command)
    → EachLabelIsOfKind kind (records_after_all kind replicas [] commands)
accepted_of_kind kind replicas commands =
    formed_of_kind kind replicas (records_after_all kind replicas [] commands)
    (accepted_labels_well_formed-all kind replicas commands)
