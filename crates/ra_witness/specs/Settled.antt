-- The number of updates of an RGA that a command settles.
use Rattle.std.specs.Prelude.{◌≡◌, ℕ, ◌+◌, ◌∷◌, Bool, length}
use Rattle.ra_labels.specs.declared.kind.Kind.TheVariants.{Rga}
use Rattle.ra_labels.specs.declared.command.Command.{Command}
use Rattle.ra_labels.specs.Records.{Records}
use Rattle.ra_labels.specs.Visibility.{has_delivered}
use Rattle.ra_labels.specs.Insertion.{updates_passing}
use Rattle.ra_labels.specs.Pending.{IsSettled}

-- Holds if the command increases the number of settled updates of the replica by `more`. By a theorem, the delivered
-- updates determine which ones are settled.
pub record SettlesMore (records : Records) (command : Command) (replica more : ℕ) : Type 0 where
  pub settled : ℕ → Bool
  pub now : ℕ → Bool
  pub before : IsSettled records (has_delivered records replica) settled
  pub after : IsSettled (command ∷ records) (has_delivered (command ∷ records) replica) now
  pub count : length (updates_passing Rga (command ∷ records) now)
      ≡ length (updates_passing Rga records settled) + more
