-- The position of an update among the updates of its replica.
use Rattle.std.specs.Prelude.{ℕ, ◌+◌, ◌==◌, ◌&&◌, [], ◌∷◌, if◌then◌else◌}
use Rattle.std.specs.Option.{option_map_or}
use Rattle.ra_labels.specs.declared.command.Command.TheVariants.{Operate}
use Rattle.ra_labels.specs.Records.{Records, label_count, label_at}
use Rattle.ra_labels.specs.Visibility.{is_update}

-- the replica that issued label n; 0 if there is no such label
abbrev pub issuer_of : Records → ℕ → ℕ
issuer_of records n = option_map_or (λ label. label.replica) (label_at records n) 0

-- the number of updates that the replica issued
abbrev pub updates_issued : Records → ℕ → ℕ
updates_issued [] replica = 0
updates_issued (Operate by op clock ∷ before) replica =
    if by == replica && is_update op then updates_issued before replica + 1 else updates_issued before replica
updates_issued (_ ∷ before) replica = updates_issued before replica

-- the number of updates that the label's replica had issued before the label
abbrev pub issue_position : Records → ℕ → ℕ
issue_position [] n = 0
issue_position (Operate by op clock ∷ before) n =
    if n == label_count before then updates_issued before by else issue_position before n
issue_position (_ ∷ before) n = issue_position before n
