-- The data that a tracker keeps for one replica.
use Rattle.std.specs.Prelude.{ℕ, ◌+◌, ◌-◌, Bool, List, [], ◌∷◌, ◌++◌, Option, None, length, get_or, set, take, replicate, if◌then◌else◌}
use Rattle.ra_visibility.specs.declared.stored.Stored.{Stored}

pub record Replica : Type 0 where
  -- the number of updates of each replica delivered to it, its own included, with room for replicas that join
  pub counts : List ℕ
  -- the labels of its own updates, in their order
  pub issued : List ℕ
  -- where its counts are stored, if nothing was delivered to it since
  pub stored : Option Stored

-- a replica to which nothing was delivered, with room for the given number of counts
abbrev pub new_replica : ℕ → Replica
new_replica places = record { counts = replicate places 0; issued = []; stored = None }

-- a replica that joins from this one: it has the same counts and has issued nothing
abbrev pub joined_from : Replica → Replica
joined_from replica = record { counts = replica.counts; issued = []; stored = None }

-- the replica after its next label, an update or not
abbrev pub with_own : Replica → ℕ → Bool → ℕ → Replica
with_own replica own update label = record {
  counts = if update then set replica.counts own (get_or replica.counts own 0 + 1) else replica.counts;
  issued = if update then replica.issued ++ label ∷ [] else replica.issued;
  stored = replica.stored;
}

-- the replica without its last own label
abbrev pub without_own : Replica → ℕ → Bool → Replica
without_own replica own update = record {
  counts = if update then set replica.counts own (get_or replica.counts own 0 - 1) else replica.counts;
  issued = if update then take (length replica.issued - 1) replica.issued else replica.issued;
  stored = replica.stored;
}

-- the replica with its counts stored here, or nowhere
abbrev pub stored_at : Replica → Option Stored → Replica
stored_at replica at = record { counts = replica.counts; issued = replica.issued; stored = at }

-- the replica after the delivery of the next update of another one
abbrev pub with_next : Replica → ℕ → Replica
with_next replica from = record {
  counts = set replica.counts from (get_or replica.counts from 0 + 1);
  issued = replica.issued;
  stored = None;
}

-- the replica without the last update that was delivered to it from another one
abbrev pub without_last : Replica → ℕ → Option Stored → Replica
without_last replica from at = record {
  counts = set replica.counts from (get_or replica.counts from 0 - 1);
  issued = replica.issued;
  stored = at;
}
