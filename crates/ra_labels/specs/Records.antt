-- Records: the accepted operations, deliveries and joins, newest first, so that a definition recurses on the earlier
-- ones. An accepted operation is a label, and labels are numbered from 0 in the order of their acceptance.
use Rattle.std.specs.Prelude.{ℕ, ◌+◌, ◌==◌, List, [], ◌∷◌, Option, find, option_map, if◌then◌else◌}
use Rattle.ra_labels.specs.declared.operation.Op.{Op}
use Rattle.ra_labels.specs.declared.label.Stamp.{Stamp}
use Rattle.ra_labels.specs.declared.label.Label.{Label}
use Rattle.ra_labels.specs.declared.command.Command.{Command}
use Rattle.ra_labels.specs.declared.command.Command.TheVariants.{Operate, Join}

abbrev pub Records : Type 0
Records = List Command

-- the number of labels
abbrev pub label_count : Records → ℕ
label_count [] = 0
label_count (Operate replica op clock ∷ before) = label_count before + 1
label_count (_ ∷ before) = label_count before

-- the number of replicas: the initial ones, and one for each join
abbrev pub replica_count : ℕ → Records → ℕ
replica_count initial_replicas [] = initial_replicas
replica_count initial_replicas (Join replica from ∷ before) = replica_count initial_replicas before + 1
replica_count initial_replicas (_ ∷ before) = replica_count initial_replicas before

-- the stamp with this clock of the replica
abbrev pub stamp_at : ℕ → ℕ → Stamp
stamp_at replica clock = record { clock = clock; replica = replica }

-- the label that an operation becomes after these records
abbrev pub next_label : Records → ℕ → Op → Option ℕ → Label
next_label before by op clock = record {
  number = label_count before;
  replica = by;
  op = op;
  stamp = option_map (stamp_at by) clock;
}

-- the labels, newest first
abbrev pub labels_of : Records → List Label
labels_of [] = []
labels_of (Operate replica op clock ∷ before) = next_label before replica op clock ∷ labels_of before
labels_of (_ ∷ before) = labels_of before

-- the label with number n; none if there is no such label
abbrev pub label_at : Records → ℕ → Option Label
label_at records n = find (λ label. label.number == n) (labels_of records)

-- the records up to and including label n; empty if there is no such label
abbrev pub records_to : Records → ℕ → Records
records_to [] n = []
records_to (Operate replica op clock ∷ before) n =
    if n == label_count before then Operate replica op clock ∷ before else records_to before n
records_to (_ ∷ before) n = records_to before n
