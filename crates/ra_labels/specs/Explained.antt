-- The condition of each kind on its records as a whole, which no sequence of their parts states.
use Rattle.std.specs.Prelude.{ℕ, Bool, true, List, Option, Some, None}
use Rattle.ra_labels.specs.declared.kind.Kind.{Kind}
use Rattle.ra_labels.specs.declared.kind.Kind.TheVariants as kinds
use Rattle.ra_labels.specs.declared.operation.Op.{Op}
use Rattle.ra_labels.specs.declared.operation.Op.TheVariants.{AnyRead, MvWrite, MvRead}
use Rattle.ra_labels.specs.declared.reply.Cause.{Cause}
use Rattle.ra_labels.specs.declared.reply.Cause.TheVariants.{Order, Query}
use Rattle.ra_labels.specs.Records.{Records}
use Rattle.ra_labels.specs.ListHistory.{keeps_an_order}
use Rattle.ra_labels.specs.Agreement.{reads_agree}
use Rattle.ra_labels.specs.Siblings.{reads_list_siblings}

-- the number of the value that a read of an object of any type returned; none if it is no such read
abbrev pub value_read : Op → Option ℕ
value_read (AnyRead value) = Some value
value_read _ = None

-- the value that is written to a multi-value register; none if the operation is no such write
abbrev pub value_written : Op → Option ℕ
value_written (MvWrite value) = Some value
value_written _ = None

-- the values that a read of a multi-value register returned; none if it is no such read
abbrev pub values_listed : Op → Option (List ℕ)
values_listed (MvRead values) = Some values
values_listed _ = None

-- `true` if the records meet the condition of their kind: an order of the inserted elements extends the required edges
-- of a list; reads of an object of any type that see the same updates return the same value; each read of a multi-value
-- register returns the values of the siblings. The other kinds have no such condition.
abbrev pub is_explained : Kind → Records → Bool
is_explained kinds.List records = keeps_an_order records
is_explained kinds.Any records = reads_agree value_read records
is_explained kinds.MvRegister records = reads_list_siblings value_written values_listed records
is_explained _ records = true

-- the cause of a fault if the records do not meet the condition of their kind
abbrev pub unexplained_cause : Kind → Cause
unexplained_cause kinds.List = Order
unexplained_cause _ = Query
