use Rattle.std.proofs.Common.{◌∷◌, true, false, true≢false, Some, refl, sym, ap, ◌∙◌, subst, arith}
use Rattle.std.specs.Result.{result_err}
use Rattle.ra_witness.specs.States.{steps_of}
use Rattle.ra_witness.proofs.OfferedLabels.{cause_in_sequence, cause_of_kind, is_offered, comes_offered, order_fails, listed_count, update_known, all_admitted, same_op, taken, kept_same, in_ok, in_ok_part, in_err, in_err_part, fits_in_a_list, not_for_order}
use Rattle.ra_witness.proofs.Failures.{shown_by_none}
use Rattle.ra_witness.proofs.witness.Witness.offer.Goals as goal
use Rattle.ra_labels.specs.HistorySoFar.{operate}
use Rattle.ra_witness.specs.Effects.{AreEffectsOf, IsFoundIn}

pub returns-then-not-fits-clause-cause : goal.returns-then-not-fits-clause-cause
returns-then-not-fits-clause-cause g c = λ past next stands comes.
    let its = c.fits.ensures past next stands.order comes in
    ap Some c.of.ensures.cause
    ∙ order_fails past.kind past.records next its.0 stands.none its.1
    (its.2 ∙ c.if-not-fits.true)

pub admit-requires : goal.admit-requires
admit-requires g c =
    let may = c.requires in
    let its = c.fits.ensures may.past may.next may.stands.order may.comes in
    record {
      past = may.past;
      next = may.next;
      stands = may.stands.kept;
      offered = is_offered g.O.LabelOrder.stands_for c.args.self.now may.past may.next c.args.label.now c.args.seen.now its.0 may.stands may.comes its.1
          (its.2 ∙ c.if-not-fits.false) may.few;
      acts_are = c.in_ok-parts.ensures.acts ∙ same_op c.args.label.now may.past.records may.next may.comes.becomes;
    }

pub returns-in-Err-clause-cause : goal.returns-in-Err-clause-cause
returns-in-Err-clause-cause g c = λ past next stands comes.
    let lists = (g.met.O.LabelOrder g.world.𝓛 g.world.𝓜 g.world.𝓡 ((λ s x. x), (λ x. x), (λ x. x), λ x. x)).lists in
    let its = c.fits.ensures past next stands.order comes in
    let offered = comes_offered g.O.LabelOrder.stands_for g.O.LabelOrder.listed lists c.args.self.now c.args.label.now
    c.args.seen.now its.0 c.requires past next stands comes its.1
    (its.2 ∙ c.if-not-fits.false) in
    ap Some c.of-in-Err.ensures.cause
    ∙ cause_in_sequence past.kind (operate next ∷ past.records) c.in-Err.cause
    (ap result_err (sym c.in-Err.is) ∙ c.in_ok-admitted.ensures.cause past next stands.kept offered
    (c.in_ok-parts.ensures.acts ∙ same_op c.args.label.now past.records next comes.becomes))

-- the same effects are kept after the test
pub returns-in-Err-clause-same : goal.returns-in-Err-clause-same
returns-in-Err-clause-same g c = λ past stands failed.
    kept_same g.O.LabelOrder.stands_for c.args.self.now _ past stands stands.order
    (subst (λ k. AreEffectsOf k past) (sym c.admit.ensures.same) stands.kept)

pub add-requires-clause-may : goal.add-requires-clause-may
add-requires-clause-may g c =
    let may = c.requires in
    let its = c.fits.ensures may.past may.next may.stands.order may.comes in
    let acts = c.in_ok-parts.ensures.acts ∙ same_op c.args.label.now may.past.records may.next may.comes.becomes in
    let offered = is_offered g.O.LabelOrder.stands_for c.args.self.now may.past may.next c.args.label.now c.args.seen.now its.0 may.stands may.comes its.1
    (its.2 ∙ c.if-not-fits.false) may.few in
    record {
      past = may.past;
      next = may.next;
      stands = subst (λ k. AreEffectsOf k may.past) (sym c.admit.ensures.same) may.stands.kept;
      offered = offered;
      comes = may.comes;
      admitted = all_admitted may.past.kind (operate may.next ∷ may.past.records)
          (ap result_err (sym c.in-Ok.is) ∙ c.in_ok-admitted.ensures.cause may.past may.next may.stands.kept offered acts);
      update_is = update_known c.in-Ok.admitted.update _ may.next.op (rw c.in-Ok.is at c.in_ok-admitted.ensures.update) acts;
    }

pub add-requires-clause-found : goal.add-requires-clause-found
add-requires-clause-found g c =
    subst (λ k. IsFoundIn k c.args.label.now c.in-Ok.admitted.found) (sym c.admit.ensures.same)
    (rw c.in-Ok.is at c.in_ok-admitted.ensures.found)

pub put-requires-clause-few : goal.put-requires-clause-few
put-requires-clause-few g c =
    let may = c.requires in
    let order = c.spare.new.self in
    let known = listed_count may.past.kind may.past.records (g.O.LabelOrder.listed order)
    ((g.met.O.LabelOrder g.world.𝓛 g.world.𝓜 g.world.𝓡 ((λ s x. x), (λ x. x), (λ x. x), λ x. x)).lists order may.past (c.in_ok-spare.ensures.stands may.past may.stands.order)) in
    omega (arith, may.few, known)

pub returns-clause-cause : goal.returns-clause-cause
returns-clause-cause g c = λ past next stands comes.
    let lists = (g.met.O.LabelOrder g.world.𝓛 g.world.𝓜 g.world.𝓡 ((λ s x. x), (λ x. x), (λ x. x), λ x. x)).lists in
    let its = c.fits.ensures past next stands.order comes in
    let offered = comes_offered g.O.LabelOrder.stands_for g.O.LabelOrder.listed lists c.args.self.now c.args.label.now
    c.args.seen.now its.0 c.requires past next stands comes its.1
    (its.2 ∙ c.if-not-fits.false) in
    let acts = c.in_ok-parts.ensures.acts ∙ same_op c.args.label.now past.records next comes.becomes in
    let update = update_known c.in-Ok.admitted.update _ next.op
    (rw c.in-Ok.is at c.in_ok-admitted.ensures.update) acts in
    let kept = subst (λ k. AreEffectsOf k past) (sym c.admit.ensures.same) stands.kept in
    let because = ap result_err (sym c.in-Ok.is) ∙ c.in_ok-admitted.ensures.cause past next stands.kept offered acts in
    let after = in_ok _ _ c.in_ok-steps.field-0 c.in-Ok-2.steps c.in-Ok-2.is
    (c.in_ok-steps.ensures.taken past next kept offered comes (sym because) update) in
    cause_of_kind past.kind (operate next ∷ past.records) true because after.1

pub returns-in-Err-2-clause-cause : goal.returns-in-Err-2-clause-cause
returns-in-Err-2-clause-cause g c = λ past next stands comes.
    let lists = (g.met.O.LabelOrder g.world.𝓛 g.world.𝓜 g.world.𝓡 ((λ s x. x), (λ x. x), (λ x. x), λ x. x)).lists in
    let its = c.fits.ensures past next stands.order comes in
    let offered = comes_offered g.O.LabelOrder.stands_for g.O.LabelOrder.listed lists c.args.self.now c.args.label.now
    c.args.seen.now its.0 c.requires past next stands comes its.1
    (its.2 ∙ c.if-not-fits.false) in
    let acts = c.in_ok-parts.ensures.acts ∙ same_op c.args.label.now past.records next comes.becomes in
    let update = update_known c.in-Ok.admitted.update _ next.op
    (rw c.in-Ok.is at c.in_ok-admitted.ensures.update) acts in
    let kept = subst (λ k. AreEffectsOf k past) (sym c.admit.ensures.same) stands.kept in
    let because = ap result_err (sym c.in-Ok.is) ∙ c.in_ok-admitted.ensures.cause past next stands.kept offered acts in
    let after = in_err _ _ c.in_ok-steps.field-0 c.in-Err-2.failure c.in-Err-2.is
    (c.in_ok-steps.ensures.taken past next kept offered comes (sym because) update) in
    ap Some after.1.cause
    ∙ cause_of_kind past.kind (operate next ∷ past.records) false because after.1.fails

pub returns-clause-taken : goal.returns-clause-taken
returns-clause-taken g c = λ past next stands comes same.
    let lists = (g.met.O.LabelOrder g.world.𝓛 g.world.𝓜 g.world.𝓡 ((λ s x. x), (λ x. x), (λ x. x), λ x. x)).lists in
    let its = c.fits.ensures past next stands.order comes in
    let offered = comes_offered g.O.LabelOrder.stands_for g.O.LabelOrder.listed lists c.args.self.now c.args.label.now
    c.args.seen.now its.0 c.requires past next stands comes its.1
    (its.2 ∙ c.if-not-fits.false) in
    let acts = c.in_ok-parts.ensures.acts ∙ same_op c.args.label.now past.records next comes.becomes in
    let update = update_known c.in-Ok.admitted.update _ next.op
    (rw c.in-Ok.is at c.in_ok-admitted.ensures.update) acts in
    let kept = subst (λ k. AreEffectsOf k past) (sym c.admit.ensures.same) stands.kept in
    let because = ap result_err (sym c.in-Ok.is) ∙ c.in_ok-admitted.ensures.cause past next stands.kept offered acts in
    let after = in_ok _ _ c.in_ok-steps.field-0 c.in-Ok-2.steps c.in-Ok-2.is
    (c.in_ok-steps.ensures.taken past next kept offered comes (sym because) update) in
    taken g.O.LabelOrder.stands_for c.args.self.now _ past next c.args.label.now c.args.seen.now stands comes
    (cause_of_kind past.kind (operate next ∷ past.records) true because after.1)
    (c.put.ensures past next (c.in_ok-spare.ensures.stands past stands.order) comes) after.0

pub returns-clause-counted : goal.returns-clause-counted
returns-clause-counted g c = λ past next stands comes other same few.
    let acts = c.in_ok-parts.ensures.acts ∙ same_op c.args.label.now past.records next comes.becomes in
    let update = update_known c.in-Ok.admitted.update _ next.op
    (rw c.in-Ok.is at c.in_ok-admitted.ensures.update) acts in
    let kept = subst (λ k. AreEffectsOf k past) (sym c.admit.ensures.same) stands.kept in
    let count = in_ok_part c.in_ok-steps.field-0 _ c.in-Ok-2.steps c.in-Ok-2.is (c.in_ok-steps.ensures.counted past kept other) in
    let known = ap steps_of update in
    let one = in_ok_part c.in_ok-steps.field-0 _ c.in-Ok-2.steps c.in-Ok-2.is c.in_ok-steps.ensures.step in
    omega (arith, count, known, few, one, c.saturating_add-self.ensures)

pub returns-clause-settled : goal.returns-clause-settled
returns-clause-settled g c = λ past next stands comes rga same.
    let lists = (g.met.O.LabelOrder g.world.𝓛 g.world.𝓜 g.world.𝓡 ((λ s x. x), (λ x. x), (λ x. x), λ x. x)).lists in
    let its = c.fits.ensures past next stands.order comes in
    let offered = comes_offered g.O.LabelOrder.stands_for g.O.LabelOrder.listed lists c.args.self.now c.args.label.now
    c.args.seen.now its.0 c.requires past next stands comes its.1
    (its.2 ∙ c.if-not-fits.false) in
    let acts = c.in_ok-parts.ensures.acts ∙ same_op c.args.label.now past.records next comes.becomes in
    let kept = subst (λ k. AreEffectsOf k past) (sym c.admit.ensures.same) stands.kept in
    let because = ap result_err (sym c.in-Ok.is) ∙ c.in_ok-admitted.ensures.cause past next stands.kept offered acts in (
      c.in-Ok-2.steps,
      in_ok_part c.in_ok-steps.field-0 _ c.in-Ok-2.steps c.in-Ok-2.is (c.in_ok-steps.ensures.settled past next kept offered
          (all_admitted past.kind (operate next ∷ past.records) because) rga),
      c.saturating_add-self.ensures,
    )

pub returns-in_err-spare-clause-same : goal.returns-in_err-spare-clause-same
returns-in_err-spare-clause-same g c = λ past stands failed.
    kept_same g.O.LabelOrder.stands_for c.args.self.now _ past stands (c.spare.ensures.stands past stands.order)
    (subst (λ k. AreEffectsOf k past) (sym c.admit.ensures.same) stands.kept)

pub returns-in_err-admitted-clause-same : goal.returns-in_err-admitted-clause-same
returns-in_err-admitted-clause-same g c = λ past stands failed.
    kept_same g.O.LabelOrder.stands_for c.args.self.now _ past stands stands.order
    (subst (λ k. AreEffectsOf k past) (sym c.admit.ensures.same) stands.kept)

pub returns-in_err-steps-clause-same : goal.returns-in_err-steps-clause-same
returns-in_err-steps-clause-same g c = λ past stands failed.
    let kept = subst (λ k. AreEffectsOf k past) (sym c.admit.ensures.same) stands.kept in
    kept_same g.O.LabelOrder.stands_for c.args.self.now _ past stands (c.in_ok-spare.ensures.stands past stands.order)
    (c.in_err-steps.ensures.same past kept)

pub returns-in-Err-2-clause-same : goal.returns-in-Err-2-clause-same
returns-in-Err-2-clause-same g c = λ past stands failed.
    let kept = subst (λ k. AreEffectsOf k past) (sym c.admit.ensures.same) stands.kept in
    kept_same g.O.LabelOrder.stands_for c.args.self.now _ past stands (c.in_ok-spare.ensures.stands past stands.order)
    (in_err_part c.in_ok-steps.field-0 _ c.in-Err-2.failure c.in-Err-2.is (c.in_ok-steps.ensures.unchanged past kept))

pub returns-clause-same : goal.returns-clause-same
returns-clause-same g c = λ past stands failed. absurd (failed refl)

pub returns-clause-steps : goal.returns-clause-steps
returns-clause-steps g c = λ failed. absurd (failed refl)

pub put-requires-clause-room : goal.put-requires-clause-room
put-requires-clause-room g c = c.in_ok-spare.ensures.room

pub returns-clause-grows : goal.returns-clause-grows
returns-clause-grows g c = omega (arith, c.saturating_add-self.ensures)

pub returns-clause-one_step : goal.returns-clause-one_step
returns-clause-one_step g c =
    let one = in_ok_part c.in_ok-steps.field-0 _ c.in-Ok-2.steps c.in-Ok-2.is c.in_ok-steps.ensures.step in
    omega (arith, one, c.saturating_add-self.ensures)

pub returns-then-not-fits-clause-cycle : goal.returns-then-not-fits-clause-cycle
returns-then-not-fits-clause-cycle g c = λ past next stands comes.
    let its = c.fits.ensures past next stands.order comes in
    shown_by_none past.kind (operate next ∷ past.records) c.of.result c.of.ensures.cycle
    (λ list order. true≢false
    (sym (fits_in_a_list past.kind past.records next its.0 stands.none its.1 list)
    ∙ its.2 ∙ c.if-not-fits.true))

pub returns-in-Err-clause-cycle : goal.returns-in-Err-clause-cycle
returns-in-Err-clause-cycle g c = λ past next stands comes.
    let lists = (g.met.O.LabelOrder g.world.𝓛 g.world.𝓜 g.world.𝓡 ((λ s x. x), (λ x. x), (λ x. x), λ x. x)).lists in
    let its = c.fits.ensures past next stands.order comes in
    let offered = comes_offered g.O.LabelOrder.stands_for g.O.LabelOrder.listed lists c.args.self.now c.args.label.now
    c.args.seen.now its.0 c.requires past next stands comes its.1
    (its.2 ∙ c.if-not-fits.false) in
    let because = ap result_err (sym c.in-Err.is) ∙ c.in_ok-admitted.ensures.cause past next stands.kept offered
    (c.in_ok-parts.ensures.acts ∙ same_op c.args.label.now past.records next comes.becomes) in
    shown_by_none past.kind (operate next ∷ past.records) c.of-in-Err.result c.of-in-Err.ensures.cycle
    (λ list order. not_for_order past.kind (operate next ∷ past.records) c.in-Err.cause because list
    (sym c.of-in-Err.ensures.cause ∙ order))

pub returns-in-Err-2-clause-cycle : goal.returns-in-Err-2-clause-cycle
returns-in-Err-2-clause-cycle g c = λ past next stands comes.
    let lists = (g.met.O.LabelOrder g.world.𝓛 g.world.𝓜 g.world.𝓡 ((λ s x. x), (λ x. x), (λ x. x), λ x. x)).lists in
    let its = c.fits.ensures past next stands.order comes in
    let offered = comes_offered g.O.LabelOrder.stands_for g.O.LabelOrder.listed lists c.args.self.now c.args.label.now
    c.args.seen.now its.0 c.requires past next stands comes its.1
    (its.2 ∙ c.if-not-fits.false) in
    let acts = c.in_ok-parts.ensures.acts ∙ same_op c.args.label.now past.records next comes.becomes in
    let update = update_known c.in-Ok.admitted.update _ next.op
    (rw c.in-Ok.is at c.in_ok-admitted.ensures.update) acts in
    let kept = subst (λ k. AreEffectsOf k past) (sym c.admit.ensures.same) stands.kept in
    let because = ap result_err (sym c.in-Ok.is) ∙ c.in_ok-admitted.ensures.cause past next stands.kept offered acts in
    let after = in_err _ _ c.in_ok-steps.field-0 c.in-Err-2.failure c.in-Err-2.is
    (c.in_ok-steps.ensures.taken past next kept offered comes (sym because) update) in
    after.1.cycle
