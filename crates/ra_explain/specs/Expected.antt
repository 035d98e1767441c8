-- The expected answer of the violating label.
use Rattle.std.specs.Prelude.{Bool, true, false, List, ◌∷◌, Option, Some, None, option_map, option_and_then, if◌then◌else◌}
use Rattle.ra_labels.specs.declared.operation.Op.{Op}
use Rattle.ra_labels.specs.declared.operation.Op.TheVariants as op
use Rattle.ra_labels.specs.declared.operation.Query.{Query}
use Rattle.ra_labels.specs.declared.operation.Query.TheVariants.{Count, Last, LwwRead, ReadIds, OrRead, RgaRead}
use Rattle.ra_labels.specs.declared.operation.Query.TheVariants as query
use Rattle.ra_labels.specs.declared.list_operation.ListOp.{ListOp}
use Rattle.ra_labels.specs.declared.list_operation.ListOp.TheVariants as list
use Rattle.ra_labels.specs.declared.list_operation.ListQuery.{ListQuery}
use Rattle.ra_labels.specs.declared.list_operation.ListQuery.TheVariants as question
use Rattle.ra_labels.specs.declared.command.Command.{Command}
use Rattle.ra_labels.specs.declared.command.Command.TheVariants.{Operate}
use Rattle.ra_labels.specs.declared.reply.Cause.{Cause}
use Rattle.ra_labels.specs.declared.reply.Cause.TheVariants as cause
use Rattle.ra_labels.specs.declared.reply.Fault.{Fault}
use Rattle.ra_labels.specs.declared.kind.Kind.{Kind}
use Rattle.ra_labels.specs.Records.{Records}
use Rattle.ra_labels.specs.Rewriting.{acts_of}
use Rattle.ra_labels.specs.Specification.{State, state_after}
use Rattle.ra_labels.specs.Insertion.{delivered_updates}
use Rattle.ra_monitor.specs.declared.setup.Setup.{Setup}
use Rattle.ra_monitor.specs.Monitor.{MonitorEntry, records_of, fault_in}
use Rattle.ra_seqspec.specs.Answered.{answered_in}
use Rattle.ra_witness.specs.Labels.{head_of, queries_in}
use Rattle.ra_explain.specs.ReplicaState.{replica_state}

-- the query of the operation, if it has one
abbrev pub query_in : Op → Option Query
query_in op = head_of (queries_in (acts_of op))

-- the operation of a list with this query
abbrev pub asking_list : ListQuery → ListOp
asking_list (question.Near insertion) = list.Insert insertion
asking_list (question.Has x) = list.Remove x
asking_list (question.Read elements) = list.Read elements
asking_list (question.Part elements) = list.Part elements

-- the operation with this query
abbrev pub asking : Query → Op
asking (Count v) = op.Count v
asking (Last value) = op.Last value
asking (LwwRead list) = op.LwwRead list
asking (ReadIds x ids) = op.OrRemove x ids
asking (OrRead list) = op.OrRead list
asking (RgaRead list) = op.RgaRead list
asking (query.List asked) = op.List (asking_list asked)
asking (query.AnyRead value) = op.AnyRead value
asking (query.MvRead values) = op.MvRead values

-- the operation with the expected answer of this state in place of what it returned; none if it has no query
abbrev pub expected_in : State → Op → Option Op
expected_in state operation = option_map asking (option_and_then (answered_in state) (query_in operation))

abbrev pub is_query : Cause → Bool
is_query cause.Query = true
is_query why = false

-- the newest label's operation, with the expected answer after the updates delivered to its replica, in the named order
abbrev pub expected_at : Kind → Records → Option Op
expected_at kind (Operate by operation clock ∷ before) =
    option_and_then (λ state. expected_in state operation) (state_after kind (delivered_updates kind before by))
expected_at kind records = None

-- The violating label's operation with its expected answer, if its query fails and the updates delivered to its replica
-- are admitted.
abbrev pub expected_where : Kind → Records → Option Fault → Option Op
expected_where kind records None = None
expected_where kind records (Some fault) = if is_query fault.cause then expected_at kind records else None

abbrev pub expected_answer_in : Setup → List MonitorEntry → Option Op
expected_answer_in setup log = expected_where setup.kind (records_of setup log) (fault_in setup log)

-- the command's operation, with the expected answer after the updates before the fault that were delivered to its
-- replica
abbrev pub expected_by : Setup → List MonitorEntry → Command → Option Op
expected_by setup log (Operate by operation clock) =
    option_and_then (λ state. expected_in state operation) (replica_state setup log by)
expected_by setup log command = None
