use Rattle.std.proofs.Common.{◌<◌, get_or, refl, sym, subst, ◌∙◌, arith}
use Rattle.std.specs.Prelude.{Contains}
use Rattle.std.proofs.lemmas.Bool.{false≢true}
use Rattle.std.proofs.lemmas.List.{take_all}
use Rattle.std.proofs.lemmas.List.Elements.{Contains-get_or}
use Rattle.ra_precedence.specs.Positions.{IsLastPosition}
use Rattle.ra_precedence.proofs.HeldLabels.{of_next}
use Rattle.ra_precedence.proofs.PositionLists.{meets_there, there_meets}
use Rattle.ra_precedence.proofs.checking.meets.Goals.{then-position-eq0-via-then-position-eq0, then-position-eq0-via-else-position-eq0+then-position-last}
use Rattle.ra_precedence.proofs.checking.meets.Goals as goal

pub returns-then-position-eq0 : goal.returns-then-position-eq0
returns-then-position-eq0 c = λ order are. (
  (λ is. absurd (false≢true is)),
  (λ meets.
      let last = subst (λ labels. IsLastPosition c.args.positions.now labels c.last_position-last.result) c.after.ensures
      c.last_position-last.ensures in
      let items = c.before-label-items.result.now in
      let b = get_or items c.loop-label.label-index 0 in
      let there = subst (λ labels. Contains labels b) c.before-label-items.ensures
      (Contains-get_or items c.loop-label.label-index 0 c.loop-label-test.true) in
      let (some, low) = there_meets order c.args.positions.now are c.args.condition.now c.last_position-last.result last meets b there in
      let is = c.position_in-position.ensures in
      elim c.then-position-eq0.branch [
        | then-position-eq0-via-then-position-eq0 w ↦ let none = w.if-position-eq0.true in absurd (omega (arith, some, is, none))
        | then-position-eq0-via-else-position-eq0+then-position-last w ↦
            let past = w.if-position-last.true in absurd (omega (arith, low, is, past))
      ]),
)

pub loop-label-preserved : goal.loop-label-preserved
loop-label-preserved c =
    let is = c.position_in-position.ensures in
    let some = c.if-position-eq0.false in
    let low = c.if-position-last.false in
    of_next (λ b. (0 < get_or c.args.positions.now b 0) × (get_or c.args.positions.now b 0 < c.last_position-last.result))
    c.before-label-items.result.now c.loop-label.label-index 0 c.loop-label-test.true c.loop-label.invariant
    (omega (arith, is, some), omega (arith, is, low))

pub returns : goal.returns
returns c = λ order are. (
  (λ _.
      let last = subst (λ labels. IsLastPosition c.args.positions.now labels c.last_position-last.result) c.after.ensures
      c.last_position-last.ensures in
      meets_there order c.args.positions.now are c.args.condition.now c.last_position-last.result last
      (λ b there. c.loop-label.invariant b (subst (λ labels. Contains labels b)
      (sym (take_all c.loop-label.label-index c.before-label-items.result.now c.loop-label-test.false
      ∙ c.before-label-items.ensures)) there))),
  (λ _. refl),
)
