-- A timestamp order, as contracts describe it, and the condition that it is that of a past.
use Rattle.std.specs.Prelude.{◌≡◌, ℕ, nat_lt, true, ◌&&◌, List, map, Some, Contains, if◌then◌else◌}
use Rattle.ra_labels.specs.declared.kind.Kind.{Kind}
use Rattle.ra_labels.specs.declared.label.Stamp.{Stamp}
use Rattle.ra_labels.specs.declared.label.Label.{Label}
use Rattle.ra_labels.specs.NamedOrder.{rank_of, named_labels}
use Rattle.ra_labels.specs.Records.{Records, labels_of}
use Rattle.ra_labels.specs.Visibility.{is_update}
use Rattle.ra_labels.specs.HistorySoFar.{History}
use Rattle.ra_visibility.specs.Order.{IsByTimestamp}
use Rattle.ra_time_order.specs.declared.entry.Entry.{Entry}
use Rattle.ra_time_order.specs.RunningMaxima.{RunningMaxima}
use Rattle.ra_time_order.specs.Sorted.{Sorted}
use Rattle.ra_time_order.specs.Stamps.{AreGreatestOf}

pub record TimeOrder : Type 0 where
  -- the labels in their order, each with its timestamp
  pub entries : List Entry
  -- for each replica and each number of its first updates, the greatest own stamp among them
  pub stamps : List (List Stamp)
  -- the number of further labels that there is room for
  pub room : ℕ

-- the order that these parts form, with room for one more label if each part has room
abbrev pub time_order_of : Sorted → RunningMaxima → TimeOrder
time_order_of sorted replicas = record {
  entries = sorted.entries;
  stamps = replicas.stamps;
  room = if nat_lt 0 sorted.room && replicas.has_room then 1 else 0;
}

-- the entry of a label
abbrev pub entry_of : Kind → Records → Label → Entry
entry_of kind records label = record { rank = rank_of kind records label; label = label.number }

-- holds if it is the order of the labels of this past
pub record IsTimeOrderOf (order : TimeOrder) (past : History) : Type 0 where
  pub sorts : IsByTimestamp past.kind
  pub entries : order.entries ≡ map (entry_of past.kind past.records) (named_labels past.kind past.records)
  pub stamps : AreGreatestOf order.stamps past.initial_replicas past.records
  -- only updates have an own stamp
  pub stamped : (label : Label) (stamp : Stamp) → Contains (labels_of past.records) label → label.stamp ≡ Some stamp
      → is_update label.op ≡ true
