-- Records without some of the last deliveries to a replica.
use Rattle.std.specs.Prelude.{ℕ, ◌==◌, Bool, false, ◌&&◌, List, [], ◌∷◌, ◌++◌, if◌then◌else◌}
use Rattle.ra_labels.specs.declared.command.Command.{Command}
use Rattle.ra_labels.specs.declared.command.Command.TheVariants.{Deliver}
use Rattle.ra_labels.specs.Records.{Records}
use Rattle.ra_explain.specs.Changes.{cuts_off}

-- `true` if the command is the delivery to the replica of a label that is left out
abbrev pub is_taken_back : ℕ → (ℕ → Bool) → Command → Bool
is_taken_back replica left (Deliver to label) = to == replica && left label
is_taken_back replica left command = false

-- The records without the deliveries to the replica of such labels, back to the newest command on which another label
-- or replica depends.
abbrev pub without : ℕ → (ℕ → Bool) → Records → Records
without replica left [] = []
without replica left (command ∷ before) =
    if cuts_off replica command then command ∷ before
    else if is_taken_back replica left command then without replica left before
    else command ∷ without replica left before

-- the label that the command delivers to the replica, if it does
abbrev pub got_by : ℕ → Command → List ℕ
got_by replica (Deliver to label) = if to == replica then label ∷ [] else []
got_by replica command = []

-- The labels that were delivered to the replica last, back to the newest command on which another label or replica
-- depends, latest first.
abbrev pub labels_got_last : ℕ → Records → List ℕ
labels_got_last replica [] = []
labels_got_last replica (command ∷ before) =
    if cuts_off replica command then [] else got_by replica command ++ labels_got_last replica before
