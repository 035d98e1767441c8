-- The reasons to reject a command, and the single-threaded monitor's answer.
use Rattle.std.specs.Prelude.{ℕ, ◌==◌, nat_lt, Bool, true, false, not, ◌&&◌, ◌||◌, List, [], ◌∷◌, Option, Some, None, option_map, is_some, if◌then◌else◌}
use Rattle.std.specs.Option.{option_or, option_map_or}
use Rattle.std.specs.List.{list_any}
use Rattle.std.specs.Ordering.{is_eq}
use Rattle.ra_labels.specs.declared.kind.Kind.{Kind}
use Rattle.ra_labels.specs.declared.kind.Kind.TheVariants.{Counter, Register, LwwSet, OrSet, Rga}
use Rattle.ra_labels.specs.declared.kind.Kind.TheVariants as kinds
use Rattle.ra_labels.specs.declared.operation.Op.{Op}
use Rattle.ra_labels.specs.declared.operation.Op.TheVariants.{Inc, Dec, Count, Write, Last, LwwAdd, LwwRemove, LwwRead, OrAdd, OrRemove, OrRead, After, RgaRemove, RgaRead}
use Rattle.ra_labels.specs.declared.operation.Op.TheVariants as op
use Rattle.ra_labels.specs.declared.label.Stamp.{Stamp}
use Rattle.ra_labels.specs.declared.label.Label.{Label}
use Rattle.ra_labels.specs.declared.command.Command.{Command}
use Rattle.ra_labels.specs.declared.command.Command.TheVariants.{Operate, Deliver, Join, Verdict}
use Rattle.ra_labels.specs.declared.refusal.Refusal.{Refusal}
use Rattle.ra_labels.specs.declared.refusal.Refusal.TheVariants.{UnknownReplica, WrongKind, BadList, StampMissing, StampUnwanted, StampTaken, IdTaken, UnknownLabel, NotAnUpdate, AlreadySeen, NotCausal, ReplicaThere, TooManyReplicas}
use Rattle.ra_labels.specs.declared.reply.Reply.{Reply}
use Rattle.ra_labels.specs.declared.reply.Reply.TheVariants as reply
use Rattle.ra_labels.specs.declared.reply.Fault.{Fault}
use Rattle.ra_labels.specs.declared.limits.TheConstants.{MOST_REPLICAS}
use Rattle.ra_labels.specs.Lists.{rises}
use Rattle.ra_labels.specs.Records.{Records, label_count, labels_of, replica_count, stamp_at}
use Rattle.ra_labels.specs.Visibility.{has_delivered, is_update_at, first_missing}
use Rattle.ra_labels.specs.NamedOrder.{stamp_cmp}
use Rattle.ra_labels.specs.Fault.{fault_of}

-- the given reason if the condition is true, otherwise none
abbrev pub when : Bool → Refusal → Option Refusal
when is_so refusal = if is_so then Some refusal else None

-- the first of the reasons that applies; none if none does
abbrev pub first_of : List (Option Refusal) → Option Refusal
first_of [] = None
first_of (refusal ∷ later) = option_or refusal (first_of later)

-- the kind of the operation
abbrev pub kind_of : Op → Kind
kind_of Inc = Counter
kind_of Dec = Counter
kind_of (Count v) = Counter
kind_of (Write value) = Register
kind_of (Last value) = Register
kind_of (LwwAdd x) = LwwSet
kind_of (LwwRemove x) = LwwSet
kind_of (LwwRead list) = LwwSet
kind_of (OrAdd x id) = OrSet
kind_of (OrRemove x ids) = OrSet
kind_of (OrRead list) = OrSet
kind_of (After anchor x) = Rga
kind_of (RgaRemove x) = Rga
kind_of (RgaRead list) = Rga
kind_of (op.List operation) = kinds.List
kind_of op.AnyUpdate = kinds.Any
kind_of (op.AnyRead value) = kinds.Any
kind_of (op.MvWrite value) = kinds.MvRegister
kind_of (op.MvRead values) = kinds.MvRegister

abbrev pub is_kind : Kind → Kind → Bool
is_kind Counter Counter = true
is_kind Register Register = true
is_kind LwwSet LwwSet = true
is_kind OrSet OrSet = true
is_kind Rga Rga = true
is_kind kinds.List kinds.List = true
is_kind kinds.Any kinds.Any = true
is_kind kinds.MvRegister kinds.MvRegister = true
is_kind _ _ = false

-- `true` unless the operation returned elements, identifiers or values in a list that is not strictly increasing
abbrev pub has_rising_list : Op → Bool
has_rising_list (LwwRead list) = rises list
has_rising_list (OrRemove x ids) = rises ids
has_rising_list (OrRead list) = rises list
has_rising_list (op.MvRead values) = rises values
has_rising_list _ = true

-- `true` if an operation of this form carries a stamp
abbrev pub carries_stamp : Op → Bool
carries_stamp Inc = false
carries_stamp Dec = false
carries_stamp (Count v) = false
carries_stamp (Write value) = true
carries_stamp (Last value) = false
carries_stamp (LwwAdd x) = true
carries_stamp (LwwRemove x) = true
carries_stamp (LwwRead list) = false
carries_stamp (OrAdd x id) = false
carries_stamp (OrRemove x ids) = false
carries_stamp (OrRead list) = false
carries_stamp (After anchor x) = true
carries_stamp (RgaRemove x) = false
carries_stamp (RgaRead list) = false
carries_stamp (op.List operation) = false
carries_stamp op.AnyUpdate = false
carries_stamp (op.AnyRead value) = false
carries_stamp (op.MvWrite value) = false
carries_stamp (op.MvRead values) = false

-- `true` if a clock is given and is not 0
abbrev pub has_clock : Option ℕ → Bool
has_clock clock = option_map_or (λ at. not (at == 0)) clock false

-- the first reason to reject the command for its own form; none if it is well-formed
abbrev pub form_refusal : Kind → Command → Option Refusal
form_refusal kind (Operate by op clock) = first_of (
    when (not (is_kind kind (kind_of op))) WrongKind
    ∷ when (not (has_rising_list op)) BadList
    ∷ when (carries_stamp op && not (has_clock clock)) StampMissing
    ∷ when (not (carries_stamp op) && is_some clock) StampUnwanted
    ∷ []
    )
form_refusal kind command = None

-- `true` if the stamp is the label's own
abbrev pub has_stamp : Stamp → Label → Bool
has_stamp stamp label = option_map_or (λ own. is_eq (stamp_cmp own stamp)) label.stamp false

-- `true` if the stamp is that of an accepted label
abbrev pub is_stamp_taken : Records → Stamp → Bool
is_stamp_taken records stamp = list_any (has_stamp stamp) (labels_of records)

-- `true` if the operation is given a clock whose stamp at its replica is taken
abbrev pub has_taken_stamp : Records → ℕ → Option ℕ → Bool
has_taken_stamp records by clock = option_map_or (λ at. is_stamp_taken records (stamp_at by at)) clock false

-- the identifier that the operation gives to an element, if any
abbrev pub identifier_of : Op → Option ℕ
identifier_of (OrAdd x id) = Some id
identifier_of _ = None

-- `true` if the label gives this identifier
abbrev pub has_identifier : ℕ → Label → Bool
has_identifier id label = option_map_or (λ own. own == id) (identifier_of label.op) false

-- `true` if an accepted label gives this identifier
abbrev pub is_identifier_taken : Records → ℕ → Bool
is_identifier_taken records id = list_any (has_identifier id) (labels_of records)

-- `true` if the operation gives an identifier that is taken
abbrev pub has_taken_identifier : Records → Op → Bool
has_taken_identifier records op = option_map_or (is_identifier_taken records) (identifier_of op) false

-- the first reason to reject an operation, in the fixed order of the reasons
abbrev pub refusal_of_operation : Kind → ℕ → Records → ℕ → Op → Option ℕ → Option Refusal
refusal_of_operation kind replicas records by op clock = first_of (
    when (not (nat_lt by (replica_count replicas records))) UnknownReplica
    ∷ form_refusal kind (Operate by op clock)
    ∷ when (has_taken_stamp records by clock) StampTaken
    ∷ when (has_taken_identifier records op) IdTaken
    ∷ []
    )

-- the first reason to reject a delivery to an existing replica, in the fixed order of the reasons
abbrev pub delivery_refusal_at : Records → ℕ → ℕ → Option Refusal
delivery_refusal_at records to label = first_of (
    when (not (nat_lt label (label_count records))) UnknownLabel
    ∷ when (not (is_update_at records label)) NotAnUpdate
    ∷ when (has_delivered records to label) AlreadySeen
    ∷ option_map NotCausal (first_missing records to label)
    ∷ []
    )

-- the first reason to reject a delivery, in the fixed order of the reasons
abbrev pub refusal_of_delivery : ℕ → Records → ℕ → ℕ → Option Refusal
refusal_of_delivery replicas records to label =
    first_of
    (when (not (nat_lt to (replica_count replicas records))) UnknownReplica
    ∷ delivery_refusal_at records to label ∷ [])

-- the first reason to reject a join, in the fixed order of the reasons
abbrev pub refusal_of_join : ℕ → Records → ℕ → ℕ → Option Refusal
refusal_of_join replicas records replica from = let count = replica_count replicas records in first_of (
    when (not (nat_lt from count) || nat_lt count replica) UnknownReplica
    ∷ when (nat_lt replica count) ReplicaThere
    ∷ when (not (nat_lt count MOST_REPLICAS)) TooManyReplicas
    ∷ []
    )

-- the first reason to reject the command after these records; none if the command is accepted there
abbrev pub refusal_of : Kind → ℕ → Records → Command → Option Refusal
refusal_of kind replicas records (Operate by op clock) = refusal_of_operation kind replicas records by op clock
refusal_of kind replicas records (Deliver to label) = refusal_of_delivery replicas records to label
refusal_of kind replicas records (Join replica from) = refusal_of_join replicas records replica from
refusal_of kind replicas records Verdict = None

abbrev pub no_reply : Fault → Reply
no_reply fault = reply.No fault.label fault.cause

-- the answer to a command that is not rejected, after records without a fault
abbrev pub answer_to_accepted : Kind → Records → Command → Reply
answer_to_accepted kind records (Operate by op clock) =
    option_map_or no_reply (fault_of kind (Operate by op clock ∷ records)) (reply.Ok (label_count records))
answer_to_accepted kind records (Deliver to label) = reply.Got label
answer_to_accepted kind records (Join replica from) = reply.Joined replica
answer_to_accepted kind records Verdict = reply.Yes (label_count records)

-- the records after a command that is not rejected; a verdict adds nothing to them
abbrev pub with_accepted : Records → Command → Records
with_accepted records Verdict = records
with_accepted records command = command ∷ records

-- The single-threaded monitor's answer to a command after these records: the fault if there is one; else the rejection,
-- if a reason applies; else the answer to the accepted command.
abbrev pub answer_of : Kind → ℕ → Records → Command → Reply
answer_of kind replicas records command =
    let accepted = answer_to_accepted kind records command in
    let unless_refused = option_map_or reply.Refused (refusal_of kind replicas records command) accepted in
    option_map_or no_reply (fault_of kind records) unless_refused

-- the records after the command
abbrev pub records_after : Kind → ℕ → Records → Command → Records
records_after kind replicas records command =
    if is_some (fault_of kind records) || is_some (refusal_of kind replicas records command) then records
    else with_accepted records command

-- the answers to commands that are given one after another, beginning with these records
abbrev pub answers_to : Kind → ℕ → Records → List Command → List Reply
answers_to kind replicas records [] = []
answers_to kind replicas records (command ∷ commands) =
    answer_of kind replicas records command
    ∷ answers_to kind replicas (records_after kind replicas records command) commands

-- the records after commands that are given one after another, beginning with these records
abbrev pub records_after_all : Kind → ℕ → Records → List Command → Records
records_after_all kind replicas records [] = records
records_after_all kind replicas records (command ∷ commands) =
    records_after_all kind replicas (records_after kind replicas records command) commands
