-- The JSON object of a report: its keys are in the order of their bytes, and it has no spaces.
use Rattle.std.specs.Prelude.{ℕ, List, [], ◌∷◌, ◌++◌, Option, Some, None, cond, codes, decimal}
use Rattle.ra_labels.specs.declared.kind.Kind.{Kind}
use Rattle.ra_labels.specs.declared.reply.Fault.{Fault}
use Rattle.ra_theorems.specs.AnyOrder.{is_of_any_order}
use Rattle.ra_monitor.specs.declared.report.Report.{Report}
use Rattle.serde_json.specs.Data.{Data, boolean, string, number, unsigned, object, member, no_members}
use Rattle.ra_history_lines.specs.Grammar.{kind_word}
use Rattle.ra_history_lines.specs.Replies.{cause_word}

-- whether a violation of this kind is final, as JSON
abbrev pub final_word : Kind → List ℕ
final_word kind = cond (is_of_any_order kind) (codes "true") (codes "false")

-- the text from the key `kind` to the key `labels`, or to the key `label` for a violation
abbrev pub kind_members : Kind → List ℕ
kind_members kind = codes ",\"kind\":\"" ++ (kind_word kind ++ codes "\",")

-- the last three members
abbrev pub last_members : Report → List ℕ → List ℕ
last_members report verdict =
    codes "\"labels\":" ++ (decimal report.labels ++ (codes ",\"refused\":" ++ (decimal report.refused
    ++ (codes ",\"verdict\":\"" ++ (verdict ++ codes "\"}")))))

-- the members after the key `calls`
abbrev pub members_by_fault : Report → Option Fault → List ℕ
members_by_fault report None = kind_members report.kind ++ last_members report (codes "yes")
members_by_fault report (Some fault) =
    codes ",\"cause\":\"" ++ (cause_word fault.cause ++ (codes "\",\"final\":" ++ (final_word report.kind
    ++ (kind_members report.kind ++ (codes "\"label\":" ++ (decimal fault.label
    ++ (codes "," ++ last_members report (codes "no"))))))))

-- the object of a report
abbrev pub report_object : Report → List ℕ
report_object report = codes "{\"calls\":" ++ (decimal report.calls ++ members_by_fault report report.fault)

-- the object on a line of its own
abbrev pub report_line : Report → List ℕ
report_line report = report_object report ++ 10 ∷ []

-- ---- the same as data

abbrev pub count_data : ℕ → Data
count_data n = number (unsigned n)

abbrev pub members_data : Report → Option Fault → Data
members_data report None = object (
    member (codes "calls") (count_data report.calls)
    (member (codes "kind") (string (kind_word report.kind))
    (member (codes "labels") (count_data report.labels)
    (member (codes "refused") (count_data report.refused)
    (member (codes "verdict") (string (codes "yes")) no_members)))))
members_data report (Some fault) = object (
    member (codes "calls") (count_data report.calls)
    (member (codes "cause") (string (cause_word fault.cause))
    (member (codes "final") (boolean (is_of_any_order report.kind))
    (member (codes "kind") (string (kind_word report.kind))
    (member (codes "label") (count_data fault.label)
    (member (codes "labels") (count_data report.labels)
    (member (codes "refused") (count_data report.refused)
    (member (codes "verdict") (string (codes "no")) no_members))))))))

abbrev pub report_data : Report → Data
report_data report = members_data report report.fault
