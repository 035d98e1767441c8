-- The condition that records hold, and the first label at which they do not.
use Rattle.std.specs.Prelude.{ℕ, [], ◌∷◌, Option, Some, None, option_map, is_none, not, if◌then◌else◌}
use Rattle.std.specs.Option.{option_or}
use Rattle.ra_labels.specs.declared.kind.Kind.{Kind}
use Rattle.ra_labels.specs.declared.command.Command.TheVariants.{Operate}
use Rattle.ra_labels.specs.declared.reply.Cause.{Cause}
use Rattle.ra_labels.specs.declared.reply.Cause.TheVariants.{Order, Update, Query}
use Rattle.ra_labels.specs.declared.reply.Fault.{Fault}
use Rattle.ra_labels.specs.Records.{Records, label_count}
use Rattle.ra_labels.specs.Explained.{is_explained, unexplained_cause}
use Rattle.ra_labels.specs.Linearization.{IsRaLinearization, extends_visibility, updates_admitted, queries_admitted}
use Rattle.ra_labels.specs.NamedOrder.{named_sequence}

-- holds if the named sequence is an RA-linearization of the records
abbrev pub Holds : Kind → Records → Type 0
Holds kind records = IsRaLinearization kind records (named_sequence kind records)

-- the first condition that the named sequence fails; none if it meets all three
abbrev pub sequence_cause : Kind → Records → Option Cause
sequence_cause kind records =
    let sequence = named_sequence kind records in
    if not (extends_visibility records sequence) then Some Order
    else if not (updates_admitted kind sequence) then Some Update
    else if not (queries_admitted kind records sequence) then Some Query
    else None

-- the first condition that the named sequence fails; else that of the kind if the records do not meet it
abbrev pub cause_of : Kind → Records → Option Cause
cause_of kind records =
    option_or (sequence_cause kind records)
    (if is_explained kind records then None else Some (unexplained_cause kind))

abbrev pub fault_at : ℕ → Cause → Fault
fault_at n why = record { label = n; cause = why }

-- the first label at which the records do not hold: that of the earlier records, else the newest label if it fails
abbrev pub fault_of : Kind → Records → Option Fault
fault_of kind [] = None
fault_of kind (Operate replica op clock ∷ before) =
    let records = Operate replica op clock ∷ before in
    option_or (fault_of kind before) (option_map (fault_at (label_count before)) (cause_of kind records))
fault_of kind (_ ∷ before) = fault_of kind before

-- the longest prefix of the history that has no fault, found by dropping the newest records
abbrev pub records_before_fault : Kind → Records → Records
records_before_fault kind [] = []
records_before_fault kind (command ∷ before) =
    if is_none (fault_of kind (command ∷ before)) then command ∷ before else records_before_fault kind before
