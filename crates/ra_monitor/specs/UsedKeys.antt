-- The unique keys of accepted labels: their own stamps, and the identifiers that they give.
use Rattle.std.specs.Prelude.{◌≡◌, ℕ, ◌<◌, ◌==◌, nat_eq, Bool, false, List, [], Option, Some, None, get_or, vec_len}
use Rattle.std.specs.HashSet.{contains, spare}
use Rattle.std.specs.Ordering.{is_eq}
use Rattle.ra_labels.specs.declared.label.Stamp.{Stamp}
use Rattle.ra_labels.specs.HistorySoFar.{NextOperation}
use Rattle.ra_labels.specs.declared.refusal.Refusal.{Refusal}
use Rattle.ra_labels.specs.declared.refusal.Refusal.TheVariants.{StampTaken, IdTaken}
use Rattle.ra_labels.specs.Records.{Records, stamp_at}
use Rattle.ra_labels.specs.NamedOrder.{stamp_cmp}
use Rattle.ra_labels.specs.Answer.{when, is_stamp_taken, identifier_of, is_identifier_taken}
use Rattle.ra_monitor.specs.declared.used_keys.unique_key.UniqueKey as brought
use Rattle.ra_monitor.specs.declared.used_keys.UsedKeys.{UsedKeys}
use Rattle.ra_monitor.specs.Clocks.{Clocks, is_clock_in}

-- the clocks of a replica's own stamps
abbrev pub clocks_at : List Clocks → ℕ → Clocks
clocks_at all replica = get_or all replica (record { clocks = []; room = 0 })

-- `true` if the stamp is one of these
abbrev pub is_stamp_in : UsedKeys → Stamp → Bool
is_stamp_in taken stamp = is_clock_in (clocks_at taken.clocks.items stamp.replica) stamp.clock

abbrev pub is_identifier_in : UsedKeys → ℕ → Bool
is_identifier_in taken identifier = contains nat_eq taken.identifiers identifier

-- holds if there is room for the unique key of a label of the replica
pub record HasRoom (taken : UsedKeys) (replica : ℕ) : Type 0 where
  pub clock : 0 < (clocks_at taken.clocks.items replica).room
  pub identifier : 0 < spare taken.identifiers

abbrev pub CanKeep : UsedKeys → brought.UniqueKey → Type 0
CanKeep taken (brought.TheVariants.Identifier identifier) = 0 < spare taken.identifiers
CanKeep taken (brought.TheVariants.Stamp stamp) =
    (stamp.replica < vec_len taken.clocks) × (0 < (clocks_at taken.clocks.items stamp.replica).room)
CanKeep taken brought.TheVariants.Nothing = Unit {0}

-- the unique key of the next label: the identifier that it gives, or else its own stamp, if it has one
abbrev pub key_with : ℕ → Option ℕ → Option ℕ → brought.UniqueKey
key_with by (Some identifier) clock = brought.TheVariants.Identifier identifier
key_with by None (Some clock) = brought.TheVariants.Stamp (stamp_at by clock)
key_with by None None = brought.TheVariants.Nothing

abbrev pub key_of : NextOperation → brought.UniqueKey
key_of next = key_with next.by (identifier_of next.op) next.clock

abbrev pub key_is_stamp : brought.UniqueKey → Stamp → Bool
key_is_stamp (brought.TheVariants.Stamp own) stamp = is_eq (stamp_cmp own stamp)
key_is_stamp _ stamp = false

abbrev pub key_is_identifier : brought.UniqueKey → ℕ → Bool
key_is_identifier (brought.TheVariants.Identifier own) identifier = own == identifier
key_is_identifier _ identifier = false

-- the reason to reject a label with this unique key, if a label of the records has it
abbrev pub refusal_by : Records → brought.UniqueKey → Option Refusal
refusal_by records (brought.TheVariants.Identifier identifier) = when (is_identifier_taken records identifier) IdTaken
refusal_by records (brought.TheVariants.Stamp stamp) = when (is_stamp_taken records stamp) StampTaken
refusal_by records brought.TheVariants.Nothing = None

-- holds if these are the unique keys of the labels in the records
pub record AreUsedKeysOf (records : Records) (taken : UsedKeys) : Type 0 where
  pub stamps : (stamp : Stamp) → is_stamp_in taken stamp ≡ is_stamp_taken records stamp
  pub identifiers : (identifier : ℕ) → is_identifier_in taken identifier ≡ is_identifier_taken records identifier
