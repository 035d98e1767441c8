use Rattle.std.proofs.Common.{◌≡◌, false, ap, ◌∙◌, string_bytes}
use Rattle.serde_json.specs.View.{view}
use Rattle.serde_json.specs.Written.{has_float, compact_text}
use Rattle.ra_cli_report.specs.Report.{report_data}
use Rattle.ra_cli_report.proofs.Reports.{no_float, object_text}
use Rattle.ra_cli_report.proofs.json.report_json.Goals as goal

pub returns : goal.returns
returns c =
    let built : view c.in_ok-value.value ≡ report_data c.args.report.now = c.in_ok-value.ensures in
    let none : has_float (view c.in_ok-value.value) ≡ false = ap has_float built
    ∙ no_float c.args.report.now c.args.report.now.fault in
    let text : string_bytes c.in_ok-to_string.field-0 ≡ compact_text (view c.in_ok-value.value) =
    c.in_ok-to_string.ensures.text none in
    text ∙ ap compact_text built ∙ object_text c.args.report.now c.args.report.now.fault
