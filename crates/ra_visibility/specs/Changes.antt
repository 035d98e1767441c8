-- The changes of a tracker, and how the last one is undone.
use Rattle.std.specs.Prelude.{ℕ, ◌-◌, Bool, List, [], ◌∷◌, ◌++◌, length, Option, Some, None, if◌then◌else◌, take, set, replicate, max}
use Rattle.ra_labels.specs.declared.limits.TheConstants.{MOST_REPLICAS}
use Rattle.ra_visibility.specs.declared.row.Row.{Row}
use Rattle.ra_visibility.specs.declared.stored.Stored.{Stored}
use Rattle.ra_visibility.specs.declared.last_change.LastChange.{LastChange}
use Rattle.ra_visibility.specs.declared.last_change.LastChange.TheVariants.{Nothing, Issue, Delivery, Join}
use Rattle.ra_visibility.specs.Replica.{new_replica, joined_from, with_own, without_own, stored_at, with_next, without_last}
use Rattle.ra_visibility.specs.Tracked.{Tracked, replicas_in, labels_in, replica_at, row_at}

-- the number of counts that each replica has room for, given the number of initial replicas
abbrev pub places_for : ℕ → ℕ
places_for replicas = max replicas MOST_REPLICAS

-- the tracker without any label, of the given number of replicas
abbrev pub nothing_in : ℕ → Tracked
nothing_in replicas =
    record { replicas = replicate replicas (new_replica (places_for replicas)); rows = []; stored = [] }

-- where the replica's counts are stored; if nowhere, the position at the end with the given width
abbrev pub stored_for : Option Stored → ℕ → ℕ → Stored
stored_for (Some there) end width = there
stored_for None end width = record { at = end; width = width }

-- the stored counts, with those of the replica appended unless they are stored already
abbrev pub stored_with : Option Stored → List ℕ → List ℕ → List ℕ
stored_with (Some there) stored counts = stored
stored_with None stored counts = stored ++ counts

-- the tracker after the replica's next label, an update or not
abbrev pub with_label : Tracked → ℕ → Bool → Tracked
with_label tracked by update =
    let replica = replica_at tracked by in
    let issued = with_own replica by update (labels_in tracked) in
    let there = stored_for replica.stored (length tracked.stored) (replicas_in tracked) in
    let place = length replica.issued in
    let row : Row =
    record { replica = by; is_update = update; width = there.width; place = place; counts = there.at } in
    record {
      replicas = set tracked.replicas by (stored_at issued (Some there));
      rows = tracked.rows ++ row ∷ [];
      stored = stored_with replica.stored tracked.stored (take (replicas_in tracked) issued.counts);
    }

-- the tracker after the delivery of the label: the receiver's count for the label's replica increases by one
abbrev pub with_delivery : Tracked → ℕ → ℕ → Tracked
with_delivery tracked to label =
    let from = (row_at tracked label).replica in
    record {
      replicas = set tracked.replicas to (with_next (replica_at tracked to) from);
      rows = tracked.rows;
      stored = tracked.stored;
    }

-- the tracker after a join: the new replica has the counts of the one that it joins from
abbrev pub with_joined : Tracked → ℕ → Tracked
with_joined tracked from = record {
  replicas = tracked.replicas ++ joined_from (replica_at tracked from) ∷ [];
  rows = tracked.rows;
  stored = tracked.stored;
}

-- the tracker without its last label, and without its replica's counts if they were stored for this label
abbrev pub without_label : Tracked → Bool → Tracked
without_label tracked was_stored =
    let row = row_at tracked (labels_in tracked - 1) in
    let replica = without_own (replica_at tracked row.replica) row.replica row.is_update in
    record {
      replicas =
          set tracked.replicas row.replica (stored_at replica (if was_stored then None else replica.stored));
      rows = take (labels_in tracked - 1) tracked.rows;
      stored = if was_stored then take row.counts tracked.stored else tracked.stored;
    }

-- the tracker with a delivery undone
abbrev pub without_delivery : Tracked → ℕ → ℕ → Option Stored → Tracked
without_delivery tracked to from at = record {
  replicas = set tracked.replicas to (without_last (replica_at tracked to) from at);
  rows = tracked.rows;
  stored = tracked.stored;
}

-- the tracker without its last replica
abbrev pub without_joined : Tracked → Tracked
without_joined tracked = record {
  replicas = take (replicas_in tracked - 1) tracked.replicas;
  rows = tracked.rows;
  stored = tracked.stored;
}

-- the tracker with the last change undone; none if there is no change to undo
abbrev pub undone : Tracked → LastChange → Option Tracked
undone tracked Nothing = None
undone tracked (Issue was_stored) = Some (without_label tracked was_stored)
undone tracked (Delivery to from at) = Some (without_delivery tracked to from at)
undone tracked Join = Some (without_joined tracked)
