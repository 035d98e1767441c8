-- Lemmas on the text of a report's JSON object.
use Rattle.std.proofs.Common.{◌≡◌, ℕ, false, ◌++◌, Option, Some, None, refl}
use Rattle.std.specs.Prelude.{codes, decimal}
use Rattle.serde_json.specs.Written.{has_float, compact_text}
use Rattle.serde_json.proofs.OnLiterals.{serde_json_on_literals}
use Rattle.ra_labels.specs.declared.kind.Kind.{Kind}
use Rattle.ra_labels.specs.declared.kind.Kind.TheVariants.{Counter, Register, LwwSet, OrSet, Rga}
use Rattle.ra_labels.specs.declared.kind.Kind.TheVariants as kinds
use Rattle.ra_labels.specs.declared.reply.Cause.{Cause}
use Rattle.ra_labels.specs.declared.reply.Cause.TheVariants.{Order, Update, Query}
use Rattle.ra_labels.specs.declared.reply.Fault.{Fault}
use Rattle.ra_monitor.specs.declared.report.Report.{Report}
use Rattle.ra_cli_report.specs.Report.{members_by_fault, members_data}

-- a report from its parts
abbrev report_of : Kind → ℕ → ℕ → ℕ → Option Fault → Report
report_of kind calls labels refused fault =
    record { kind = kind; calls = calls; labels = labels; refused = refused; fault = fault }

-- the text is that of the object with these members
abbrev HasText : Report → Option Fault → Type 0
HasText report fault = compact_text (members_data report fault)
    ≡ codes "{\"calls\":" ++ (decimal report.calls ++ members_by_fault report fault)

yes_text : (kind : Kind) (calls labels refused : ℕ) (fault : Option Fault)
    → HasText (report_of kind calls labels refused fault) None
unfolding serde_json_on_literals
yes_text Counter calls labels refused fault = refl
yes_text Register calls labels refused fault = refl
yes_text LwwSet calls labels refused fault = refl
yes_text OrSet calls labels refused fault = refl
yes_text Rga calls labels refused fault = refl
yes_text kinds.List calls labels refused fault = refl
yes_text kinds.Any calls labels refused fault = refl
yes_text kinds.MvRegister calls labels refused fault = refl

no_text : (kind : Kind) (cause : Cause) (label calls labels refused : ℕ) (fault : Option Fault)
    → HasText (report_of kind calls labels refused fault) (Some (record { label = label; cause = cause }))
unfolding serde_json_on_literals
no_text Counter Order label calls labels refused fault = refl
no_text Counter Update label calls labels refused fault = refl
no_text Counter Query label calls labels refused fault = refl
no_text Register Order label calls labels refused fault = refl
no_text Register Update label calls labels refused fault = refl
no_text Register Query label calls labels refused fault = refl
no_text LwwSet Order label calls labels refused fault = refl
no_text LwwSet Update label calls labels refused fault = refl
no_text LwwSet Query label calls labels refused fault = refl
no_text OrSet Order label calls labels refused fault = refl
no_text OrSet Update label calls labels refused fault = refl
no_text OrSet Query label calls labels refused fault = refl
no_text Rga Order label calls labels refused fault = refl
no_text Rga Update label calls labels refused fault = refl
no_text Rga Query label calls labels refused fault = refl
no_text kinds.List Order label calls labels refused fault = refl
no_text kinds.List Update label calls labels refused fault = refl
no_text kinds.List Query label calls labels refused fault = refl
no_text kinds.Any Order label calls labels refused fault = refl
no_text kinds.Any Update label calls labels refused fault = refl
no_text kinds.Any Query label calls labels refused fault = refl
no_text kinds.MvRegister Order label calls labels refused fault = refl
no_text kinds.MvRegister Update label calls labels refused fault = refl
no_text kinds.MvRegister Query label calls labels refused fault = refl

pub no_float : (report : Report) (fault : Option Fault) → has_float (members_data report fault) ≡ false
no_float report None = refl
no_float report (Some fault) = refl

pub object_text : (report : Report) (fault : Option Fault) → HasText report fault
object_text report None = yes_text report.kind report.calls report.labels report.refused report.fault
object_text report (Some fault) =
    no_text report.kind fault.cause fault.label report.calls report.labels report.refused report.fault
