-- A replica, as contracts describe it, and the terms of its clauses.
use Rattle.std.specs.Prelude.{ℕ, max, Bool, List, [], replicate, remove, Option, Some, None, option_and_then, position, slice_get, if◌then◌else◌}
use Rattle.std.specs.Option.{option_map_or}
use Rattle.ra_labels.specs.declared.kind.Kind.{Kind}
use Rattle.ra_labels.specs.Answer.{carries_stamp}
use Rattle.ra_labels.specs.declared.operation.Op.{Op}
use Rattle.ra_bench_replicas.specs.declared.message.Message.{Message}
use Rattle.ra_bench_replicas.specs.declared.turn.Turn.{Turn}
use Rattle.ra_bench_replicas.specs.Counts.{next_count, reach, counted}

pub record Replica : Type 0 where
  pub kind : Kind
  pub number : ℕ
  -- the number of replicas
  pub replicas : ℕ
  -- the greatest clock that it has seen
  pub clock : ℕ
  -- the number of updates of each replica that it applied
  pub applied : List ℕ
  -- the messages that arrived and could not be applied yet, oldest first
  pub held : List Message

-- a replica before any update
abbrev pub new_replica : Kind → ℕ → ℕ → Replica
new_replica kind number replicas = record {
  kind = kind;
  number = number;
  replicas = replicas;
  clock = 0;
  applied = replicate replicas 0;
  held = [];
}

-- the turn of this replica in a round
abbrev pub turn_of : Replica → ℕ → Turn
turn_of replica round = record { round = round; replica = replica.number; replicas = replica.replicas }

-- the clock of an update that it makes: the next one if the update carries a stamp
abbrev pub clock_of : Replica → Op → Option ℕ
clock_of replica op = if carries_stamp op then Some (next_count replica.clock) else None

-- the greater of the clock and the received one, if one was received
abbrev pub later_clock : ℕ → Option ℕ → ℕ
later_clock clock came = option_map_or (max clock) came clock

-- the replica after an update of replica `from` with this clock is applied
abbrev pub with_update : Replica → ℕ → Option ℕ → Replica
with_update replica from clock = record replica {
  clock = later_clock replica.clock clock;
  applied = counted replica.applied from;
}

abbrev pub with_held : Replica → List Message → Replica
with_held replica held = record replica { held = held }

-- `true` if all causes of the message are applied
abbrev pub is_ready : Replica → Message → Bool
is_ready replica message = reach replica.applied message.made.had

-- the position of the first held message whose causes are all applied, if there is one
abbrev pub ready_place : Replica → Option ℕ
ready_place replica = position (is_ready replica) replica.held

-- the first held message whose causes are all applied, if there is one
abbrev pub ready_message : Replica → Option Message
ready_message replica = option_and_then (slice_get replica.held) (ready_place replica)

-- the replica after the message at this position is applied, and held no longer
abbrev pub with_applied : Replica → ℕ → Message → Replica
with_applied replica place message =
    with_held (with_update replica message.from message.made.clock) (remove replica.held place)

-- the replica after the first message that can be applied is applied, if there is one
abbrev pub with_next : Replica → Replica
with_next replica = option_map_or (λ place.
    option_map_or (with_applied replica place) (slice_get replica.held place) replica) (ready_place replica) replica
