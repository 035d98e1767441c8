use Rattle.std.proofs.Common.{◌≡◌, ◌<◌, ◌+◌, true, length, get_or, set, sym, ap, subst, ◌∙◌, arith}
use Rattle.std.proofs.lemmas.List.{length-set, get_or-set_same, get_or-set_other}
use Rattle.ra_visibility.specs.Seen.{is_in}
use Rattle.ra_rga_precedence.specs.Marks.{removal_at}
use Rattle.ra_rga_precedence.specs.Situation.{operations_in}
use Rattle.ra_rga_precedence.proofs.TakenUpdates.{taken_step, needs_step, mark_length}
use Rattle.ra_rga_precedence.proofs.view.View.take_of.Goals as goal

pub loop-place-preserved : goal.loop-place-preserved
loop-place-preserved c =
    let tracked = c.args.tracker.now.now in
    let operations = operations_in c.args.operations.now in
    let needed = c.args.needed.now in
    let replica = c.args.replica in
    let old = c.loop-place.self in
    let place = c.loop-place.place in
    let issued = c.issued-issued.result.now in
    let are = c.issued-issued.ensures in
    let kept = c.loop-place.invariant in
    let test = c.loop-place-test.true in
    let counted = c.count-place-end.ensures in
    let bound = c.requires.counts replica in
    let long = are.len in
    let within : place < length issued = omega (arith, test, counted, bound, long) in
    let wide : replica < length old.taken.items = subst (λ l. replica < l) (sym kept.wide) c.requires.wide in
    let taken = ap (λ v. set v.items replica (place + 1)) c.in_ok-take.ensures.taken in
    record {
      here = ap (λ ts. get_or ts replica 0) taken ∙ get_or-set_same old.taken.items replica (place + 1) 0 wide;
      others = λ k other. ap (λ ts. get_or ts k 0) taken
          ∙ get_or-set_other old.taken.items replica k (place + 1) 0 other ∙ kept.others k other;
      wide = ap length taken ∙ length-set old.taken.items replica (place + 1) ∙ kept.wide;
      long = ap length c.in_ok-take.ensures.removed
          ∙ mark_length old.removed.items (removal_at operations needed (get_or issued place 0)) ∙ kept.long;
      has = λ has. taken_step tracked replica issued are old wide place kept.here within operations needed c.requires.below
          _ taken c.in_ok-take.ensures.removed c.in_ok-take.ensures.present (kept.has has);
      needs = λ needs x there. needs_step tracked replica issued are old wide place kept.here within needed c.args.seen.now
          (kept.needs needs) (sym c.lacks_need.ensures ∙ c.if-lacks_need.false) x
          (subst (λ cs. is_in (record { rows = tracked.rows; counts = cs }) x ≡ true) taken there);
      low = omega (arith, test);
    }
