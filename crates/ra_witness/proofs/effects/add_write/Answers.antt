use Rattle.std.proofs.Common.{◌∙◌, sym, arith}
use Rattle.ra_witness.specs.Overriding.{updates_written}
use Rattle.ra_witness.proofs.CommutingKinds.{admits-overriding, can_take, stamp_missing}
use Rattle.ra_witness.proofs.OverridingKinds.{writes_counted, overriding_same}
use Rattle.ra_witness.proofs.TakenWrites.{overriding_taken, overriding_asked}
use Rattle.ra_witness.proofs.effects.add_write.Goals as goal
use Rattle.ra_labels.proofs.Results.{on_err_any}

pub returns-in_default-clause-taken : goal.returns-in_default-clause-taken
returns-in_default-clause-taken c = λ past next stands offered same.
    let left = c.in_ok-add_query.ensures in
    overriding_asked c.args.kept.now c.add_query.new.self past next c.args.label.now stands offered (sym c.in_default.is ∙ same) left.writes left.same

pub unreachable-requires : goal.unreachable-requires
unreachable-requires c =
    let may = c.requires in
    stamp_missing may.past may.next c.args.label.now c.in-Some.update may.stands.one may.offered (sym may.update_is ∙ c.in-Some.is) c.in_default-stamp.is

pub add-requires-clause-few : goal.add-requires-clause-few
add-requires-clause-few c =
    let may = c.requires in
    let kept = c.args.kept.now in
    omega (arith, kept.writes.ok.0, writes_counted kept may.past may.stands, may.offered.few)

pub add-requires-clause-can : goal.add-requires-clause-can
add-requires-clause-can c =
    let may = c.requires in
    let kept = c.args.kept.now in
    can_take (updates_written kept.writes.items) kept.states.items may.past may.stands.states may.next c.args.label.now _
    (admits-overriding may.past.kind may.stands.one) may.offered (sym c.in-Some.is ∙ may.update_is)

pub returns-in_err-add-clause-same : goal.returns-in_err-add-clause-same
returns-in_err-add-clause-same c = λ past stands.
    let left = c.in_err-add.ensures in
    on_err_any c.from_residual-in_err-add.result
    (overriding_same c.args.kept.now c.add.new.self past stands left.same_writes left.same_states left.replicas left.same_lasts left.same_numbers left.same_count)

pub returns-clause-taken : goal.returns-clause-taken
returns-clause-taken c = λ past next stands offered same.
    let left = c.in_ok-add.ensures in
    overriding_taken c.args.kept.now c.add.new.self past next c.args.label.now stands offered c.in-Some.update c.in-Some-stamp.stamp
    (sym c.in-Some.is ∙ same) c.in-Some-stamp.is left.writes left.states left.lasts left.numbers left.count left.replicas
