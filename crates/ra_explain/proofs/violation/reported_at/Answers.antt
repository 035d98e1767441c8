use Rattle.std.proofs.Common.{◌≡◌, ℕ, List, sym, ap, ◌∙◌}
use Rattle.std.specs.List.{slice_get}
use Rattle.ra_monitor.specs.Monitor.{MonitorEntry}
use Rattle.ra_explain.proofs.Reported.{is_there}
use Rattle.ra_explain.proofs.violation.reported_at.Goals as goal

-- the label has a place
pub unreachable-requires : goal.unreachable-requires
unreachable-requires c =
    let m = c.args.monitor.now in
    let there = is_there m.setup m.log c.args.fault c.log-log.ensures.legal c.requires.fault in
    absurd (cc (sym c.in_default.is ∙ c.at.ensures
    ∙ ap (λ (places : List ℕ). slice_get places c.args.fault.label) c.requires.places ∙ there.at))

-- the log has an entry there
pub unreachable-requires-in_default-entry_at : goal.unreachable-requires-in_default-entry_at
unreachable-requires-in_default-entry_at c =
    let m = c.args.monitor.now in
    let there = is_there m.setup m.log c.args.fault c.log-log.ensures.legal c.requires.fault in
    let same : c.in-Some.place ≡ there.place = cc (sym c.in-Some.is ∙ c.at.ensures
    ∙ ap (λ (places : List ℕ). slice_get places c.args.fault.label) c.requires.places ∙ there.at) in
    absurd (cc (sym c.in_default-entry_at.ensures
    ∙ ap (λ (log : List MonitorEntry). slice_get log c.in-Some.place) c.log-log.ensures.entries
    ∙ ap (slice_get m.log) same ∙ there.found))

-- its command is an operation
pub unreachable-requires-in_default-command : goal.unreachable-requires-in_default-command
unreachable-requires-in_default-command c =
    let m = c.args.monitor.now in
    let there = is_there m.setup m.log c.args.fault c.log-log.ensures.legal c.requires.fault in
    let same : c.in-Some.place ≡ there.place = cc (sym c.in-Some.is ∙ c.at.ensures
    ∙ ap (λ (places : List ℕ). slice_get places c.args.fault.label) c.requires.places ∙ there.at) in
    let entry : c.in-Some-entry_at.entry.now ≡ there.entry = cc (sym c.in-Some-entry_at.ensures
    ∙ ap (λ (log : List MonitorEntry). slice_get log c.in-Some.place) c.log-log.ensures.entries
    ∙ ap (slice_get m.log) same ∙ there.found) in
    c.in_default-command.not-Operate there.next.by there.next.op there.next.clock
    (ap (λ (e : MonitorEntry). e.command) entry ∙ there.command)
