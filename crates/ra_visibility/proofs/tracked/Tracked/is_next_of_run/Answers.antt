use Rattle.std.proofs.Common.{ap, ◌∙◌}
use Rattle.std.proofs.lemmas.Bool.{eqb-true}
use Rattle.ra_visibility.specs.Replica.{Replica}
use Rattle.ra_visibility.proofs.Runs.{run_misses_none, run_read}
use Rattle.ra_visibility.proofs.tracked.Tracked.is_next_of_run.Goals as goal

pub returns-then-earlier-row : goal.returns-then-earlier-row
returns-then-earlier-row c = λ same.
    let t = c.args.self.now in
    let counts = c.counts.ensures ∙ ap (λ (r : Replica). r.counts) c.replica.ensures in
    let issued = c.issued.ensures ∙ ap (λ (r : Replica). r.issued) c.replica-2.ensures in
    let width = eqb-true c.row-earlier.result.now.width c.row-row.result.now.width same in
    run_misses_none t c.args.replica c.args.label _ c.requires.kept c.requires.replica c.requires.label
    (run_read t c.args.replica c.args.label c.row-row.result.now c.row-earlier.result.now c.counts.result.now c.issued.result.now
    c.row-row.ensures counts c.if-had-row.false c.if-had-eq0.false issued c.row-earlier.ensures c.if-earlier-row.true width)
