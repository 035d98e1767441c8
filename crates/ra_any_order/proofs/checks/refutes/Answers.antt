use Rattle.std.proofs.Common.{◌≡◌, ◌<◌, ℕ, true, Option, Some, None, refl, sym, ap, ◌∙◌, subst, inl}
use Rattle.std.specs.Prelude.{◌==◌}
use Rattle.std.specs.Option.{option_eq}
use Rattle.std.proofs.lemmas.Bool.{false≢true, eqb-true}
use Rattle.ra_precedence.specs.Conditions.{IsStuck}
use Rattle.ra_precedence.specs.Reasons.{AreReasons}
use Rattle.ra_any_order.specs.Answers.{IsReason}
use Rattle.ra_any_order.specs.Requirements.{IsImpossible}
use Rattle.ra_any_order.specs.Found.{IsFound, NamesBelow}
use Rattle.ra_visibility.specs.Tracked.{labels_in}
use Rattle.ra_any_order.proofs.Conclusions.{stuck_refutes, impossible_refutes}
use Rattle.ra_any_order.proofs.checks.refutes.Goals as goal

pub returns-in_ok-stuck-in-Conditions-Stuck : goal.returns-in_ok-stuck-in-Conditions-Stuck
returns-in_ok-stuck-in-Conditions-Stuck c = λ past stands is.
    let conditions = c.in-Conditions-Stuck.conditions.items in
    let set = c.in-Conditions-Stuck.set in
    let are = subst (IsFound past.records) c.in-Conditions-Stuck.is-0 (c.in_ok-conditions.ensures.found past stands) in
    let named = subst (NamesBelow (labels_in c.args.tracker.now.now)) c.in-Conditions-Stuck.is-0
    c.in_ok-conditions.ensures.named in
    let stuck = subst (λ cs. IsStuck cs set.labels.items) c.deref.ensures.value
    (c.in_ok-stuck-in-Conditions-Stuck.ensures.stuck is) in
    let reasons = subst (λ cs. AreReasons cs set.reasons.items) c.deref.ensures.value
    (c.in_ok-stuck-in-Conditions-Stuck.ensures.reasons is) in (
      subst (IsReason past.records) (sym c.in-Conditions-Stuck.is-1) (conditions, are.required, stuck, reasons),
      stuck_refutes past.records conditions are past.kind stands.kind stands.of_kind set.labels.items stuck
          (λ b there.
          let (condition, among, held) = stuck.held b there in
          subst (λ k. b < k) stands.visibility.labels (named condition among b (inl held.before))),
    )

same_option : (x y : Option ℕ) → option_eq (λ v w. v == w) x y ≡ true → x ≡ y
same_option None None is = refl
same_option None (Some b) is = absurd (false≢true is)
same_option (Some a) None is = absurd (false≢true is)
same_option (Some a) (Some b) is = ap Some (eqb-true a b is)

pub returns-then-label-read : goal.returns-then-label-read
returns-then-label-read c = λ past stands is.
    let here = c.in-Impossible-Read in
    let impossible = subst (IsFound past.records) here.is-0 (c.in_ok-conditions.ensures.found past stands) in
    let element_is = same_option here.element here.of (sym c.eq.ensures ∙ is) in
    let shown = subst (λ n. IsImpossible past.records n here.of) c.if-label-read.true
    (subst (IsImpossible past.records here.label) element_is impossible) in (
      subst (IsReason past.records) (sym here.is-1) shown,
      impossible_refutes past.kind stands.kind past.records stands.of_kind here.read here.of shown,
    )
