use Rattle.std.proofs.Common.{◌≡◌, length, sym, ap, ◌∙◌, arith}
use Rattle.std.specs.Prelude.{List}
use Rattle.std.proofs.lemmas.List.{length-map, length-take-le}
use Rattle.ra_labels.specs.declared.label.Stamp.{Stamp}
use Rattle.ra_labels.specs.NamedOrder.{greater_of}
use Rattle.ra_visibility.specs.Seen.{count_in}
use Rattle.ra_time_order.specs.RunningMaximum.{RunningMaximum, greatest_among}
use Rattle.ra_time_order.specs.RunningMaxima.{RunningMaxima, stamps_of}
use Rattle.ra_time_order.specs.Stamps.{stamps_at, greatest_in}
use Rattle.ra_time_order.proofs.Members.{greatest_more, greatest_without}
use Rattle.ra_time_order.proofs.running_maxima.RunningMaxima.greatest.Goals as goal

pub loop-replica-preserved : goal.loop-replica-preserved
loop-replica-preserved c =
    greatest_more _ _ _ (count_in c.args.seen.now) _ _ _ _
    (ap stamps_of c.as_slice.ensures.value ∙ ap (λ (r : RunningMaxima). r.stamps) c.self.view_is)
    c.loop-replica-test.true c.member-item.is c.loop-replica.invariant
    (c.greater-greatest.ensures ∙ ap (greater_of c.loop-replica.greatest)
    (c.among.ensures ∙ ap (greatest_among c.member-item.result.stamps) c.count.ensures))

pub returns : goal.returns
returns c =
    let members = c.as_slice.result.now in
    let used = c.self.inside.used in
    let stamps = c.args.self.now.stamps in
    let long = ap (λ (ms : List RunningMaximum). length ms) c.as_slice.ensures.value in
    let short = length-take-le used members (omega (arith, c.self.invariant.within, long)) in
    let is : stamps_of c.self.inside.members.items ≡ stamps = ap (λ (r : RunningMaxima). r.stamps) c.self.view_is in
    let last : c.loop-replica.replica ≡ used =
    omega (arith, c.loop-replica-test.false, c.loop-replica.auto.replica-end, short) in
    c.loop-replica.invariant
    ∙ ap (greatest_in stamps (count_in c.args.seen.now)) last
    ∙ greatest_without stamps (count_in c.args.seen.now) used (length stamps)
    (λ k over. ap (λ ss. stamps_at ss k) (sym is) ∙ c.self.invariant.unused k over)
    (omega (
      arith,
      c.self.invariant.within,
      ap (λ (ss : List (List Stamp)). length ss) is,
      length-map c.self.inside.members.items (λ (m : RunningMaximum). m.stamps),
    ))
