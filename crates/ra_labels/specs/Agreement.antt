-- Agreement of reads: two that see the same updates return the same value. Which value an operation read is a
-- parameter.
use Rattle.std.specs.Prelude.{ℕ, ◌==◌, Bool, true, not, ◌&&◌, ◌||◌, [], ◌∷◌, Option, if◌then◌else◌}
use Rattle.std.specs.Option.{option_map_or}
use Rattle.std.specs.List.{list_all, range_with_len}
use Rattle.ra_labels.specs.declared.operation.Op.{Op}
use Rattle.ra_labels.specs.declared.label.Label.{Label}
use Rattle.ra_labels.specs.declared.command.Command.TheVariants.{Operate}
use Rattle.ra_labels.specs.Records.{Records, label_count, labels_of}
use Rattle.ra_labels.specs.Visibility.{sees, has_delivered}

-- `true` if label n was delivered to the replica exactly if label m sees it
abbrev pub is_seen_alike : Records → ℕ → ℕ → ℕ → Bool
is_seen_alike records by m n =
    if sees records m n then has_delivered records by n else not (has_delivered records by n)

-- `true` if the replica's next label will see exactly the labels that label m sees
abbrev pub sees_the_same : Records → ℕ → ℕ → Bool
sees_the_same records by m = list_all (is_seen_alike records by m) (range_with_len 0 (label_count records))

-- `true` if the label is no read, sees other labels than the replica's next one will, or read this value
abbrev pub agrees_with : (Op → Option ℕ) → Records → ℕ → ℕ → Label → Bool
agrees_with value_of records by value earlier =
    option_map_or (λ other. not (sees_the_same records by earlier.number) || value == other) (value_of earlier.op) true

-- `true` if each earlier read that sees the same returned the value
abbrev pub agrees_with_earlier : (Op → Option ℕ) → Records → ℕ → ℕ → Bool
agrees_with_earlier value_of records by value = list_all (agrees_with value_of records by value) (labels_of records)

-- `true` if each read returned the value of each earlier one that sees the same
abbrev pub reads_agree : (Op → Option ℕ) → Records → Bool
reads_agree value_of [] = true
reads_agree value_of (Operate by op clock ∷ before) =
    option_map_or (agrees_with_earlier value_of before by) (value_of op) true && reads_agree value_of before
reads_agree value_of (_ ∷ before) = reads_agree value_of before
